-- How connections that wait are told apart.
use Rattle.std.specs.Prelude.{◌≡◌, ◌⊎◌, ℕ, Bool, List, Option, refl}
use Rattle.std.specs.Coded.{Coded, code_by, coded×, coded⊎, coded_ℕ, coded_bool, coded_list}
use Rattle.std.specs.Coded.{coded_option}
use mathlib.Core.Logic.{inl, inr}
use Rattle.line_base.specs.Lines.{Line}
use Rattle.router_log.specs.Codes.{coded_operation}
use Rattle.router_log.specs.Operation.{Operation}
use Rattle.api_sessions.specs.declared.which.Which.{Which}
use Rattle.api_sessions.specs.declared.which.Which.TheVariants.{Namerd, Admin, Feed}
use Rattle.api_sessions.specs.Stays.{Idle}

abbrev pub LineParts : Type 0
LineParts = (Option (List ℕ) × Option (List ℕ)) × ((ℕ × ℕ) × (ℕ × (ℕ × ℕ)))

abbrev pub coded_line : Coded Line
coded_line =
    code_by LineParts (coded× (coded× (coded_option (coded_list coded_ℕ))
    (coded_option (coded_list coded_ℕ))) (coded× (coded× coded_ℕ coded_ℕ)
    (coded× coded_ℕ (coded× coded_ℕ coded_ℕ))))
    (λ l. (
      (l.left, l.given),
      ((l.read_faults, l.write_faults), (l.ends, (l.closings, l.quiets))),
    ))
    (λ p. record {
      left = p.0.0;
      given = p.0.1;
      read_faults = p.1.0.0;
      write_faults = p.1.0.1;
      ends = p.1.1.0;
      closings = p.1.1.1.0;
      quiets = p.1.1.1.1;
    }) (λ _. refl)

abbrev pub which_parts : Which → ℕ ⊎ (Bool ⊎ ℕ)
which_parts Namerd = inl 0
which_parts (Admin ready) = inr (inl ready)
which_parts (Feed run) = inr (inr run)

abbrev pub which_from : ℕ ⊎ (Bool ⊎ ℕ) → Which
which_from (inl n) = Namerd
which_from (inr (inl ready)) = Admin ready
which_from (inr (inr run)) = Feed run

pub which_back : (w : Which) → which_from (which_parts w) ≡ w
which_back Namerd = refl
which_back (Admin ready) = refl
which_back (Feed run) = refl

abbrev pub coded_which : Coded Which
coded_which =
    code_by (ℕ ⊎ (Bool ⊎ ℕ)) (coded⊎ coded_ℕ (coded⊎ coded_bool coded_ℕ)) which_parts which_from
    which_back

abbrev pub IdleParts : Type 0
IdleParts = (Line × Line) × (Which × (ℕ × List Operation))

abbrev pub coded_idle : Coded Idle
coded_idle =
    code_by IdleParts (coded× (coded× coded_line coded_line)
    (coded× coded_which (coded× coded_ℕ (coded_list coded_operation))))
    (λ i. ((i.first, i.line), (i.which, (i.served, i.seen))))
    (λ p. record {
      first = p.0.0;
      line = p.0.1;
      which = p.1.0;
      served = p.1.1.0;
      seen = p.1.1.1;
    }) (λ _. refl)
