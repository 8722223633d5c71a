-- How connections that wait are told apart.
use Rattle.std.specs.Prelude.{ℕ, List, Option, refl}
use Rattle.std.specs.Coded.{Coded, code_by, coded×, coded_ℕ, coded_list, coded_option}
use Rattle.line_base.specs.declared.socket_address.SocketAddress.{SocketAddress}
use Rattle.line_base.specs.Lines.{Line}
use Rattle.retry_budget.specs.Budget.{BudgetValue}
use Rattle.router_log.specs.Codes.{coded_operation}
use Rattle.router_log.specs.Operation.{Operation}
use Rattle.client_stays.specs.Chains.{Idle}

abbrev pub LineParts : Type 0
LineParts = (Option (List ℕ) × Option (List ℕ)) × ((ℕ × ℕ) × (ℕ × (ℕ × ℕ)))

abbrev pub coded_line : Coded Line
coded_line =
    code_by LineParts (coded× (coded× (coded_option (coded_list coded_ℕ))
    (coded_option (coded_list coded_ℕ))) (coded× (coded× coded_ℕ coded_ℕ)
    (coded× coded_ℕ (coded× coded_ℕ coded_ℕ))))
    (λ l. (
      (l.left, l.given),
      ((l.read_faults, l.write_faults), (l.ends, (l.closings, l.quiets))),
    ))
    (λ p. record {
      left = p.0.0;
      given = p.0.1;
      read_faults = p.1.0.0;
      write_faults = p.1.0.1;
      ends = p.1.1.0;
      closings = p.1.1.1.0;
      quiets = p.1.1.1.1;
    }) (λ _. refl)

abbrev pub coded_budget : Coded BudgetValue
coded_budget =
    code_by ((ℕ × (ℕ × ℕ)) × ℕ) (coded× (coded× coded_ℕ (coded× coded_ℕ coded_ℕ)) coded_ℕ)
    (λ b. ((b.tries.percent, (b.tries.reserve, b.tries.most)), b.balance))
    (λ p. record {
      tries = record { percent = p.0.0; reserve = p.0.1.0; most = p.0.1.1 };
      balance = p.1;
    }) (λ _. refl)

abbrev pub coded_address : Coded SocketAddress
coded_address =
    code_by (ℕ × ℕ) (coded× coded_ℕ coded_ℕ) (λ a. (a.ip, a.port))
    (λ p. record { ip = p.0; port = p.1 }) (λ _. refl)

abbrev pub IdleParts : Type 0
IdleParts =
    (Line × (Line × Option SocketAddress)) × (ℕ × (Option BudgetValue × List Operation))

abbrev pub coded_idle : Coded Idle
coded_idle =
    code_by IdleParts (coded× (coded× coded_line (coded× coded_line (coded_option coded_address)))
    (coded× coded_ℕ (coded× (coded_option coded_budget) (coded_list coded_operation))))
    (λ i. ((i.first, (i.line, i.client)), (i.served, (i.budget, i.seen))))
    (λ p. record {
      first = p.0.0;
      line = p.0.1.0;
      client = p.0.1.1;
      served = p.1.0;
      budget = p.1.1.0;
      seen = p.1.1.1;
    }) (λ _. refl)
