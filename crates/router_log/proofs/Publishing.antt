-- What calls publish.
use Rattle.std.proofs.Common.{◌≡◌, ℕ, ◌≤◌, ◌==◌, Bool, true, false, List, ◌++◌, Some, None, Option}
use Rattle.std.proofs.Common.{refl, arith, ap, sym, ◌∙◌, subst}
use Rattle.std.specs.Prelude.{not, ◌||◌, if◌then◌else◌, nat_lt, is_some}
use Rattle.std.proofs.lemmas.Bool.Decides.{nat_tests}
use Rattle.addr_book.specs.Namer.{named_in}
use Rattle.bind_core.specs.Delegation.{Ending}
use Rattle.machine.specs.Values.{SettingsValue, ChangeValue}
use Rattle.machine.specs.State.{is_accepted}
use Rattle.bind_cache.specs.Kept.{Kept, IsRight}
use Rattle.bind_cache.specs.Cache.{found_in, most_cost}
use Rattle.one_history.specs.Order.{OfCaller}
use Rattle.router_log.specs.Operation.{Operation, changed, kept, is_change, caller_of, place_of}
use Rattle.router_log.specs.Value.{value_of, Fits, standing_rules}
use Rattle.router_log.specs.Call.{asked, looked, changing, keeping, publishes, is_kept, is_large}
use Rattle.router_log.specs.Call.{is_late, is_had, are_spent}
use Rattle.router_log.proofs.Places.{same_place}

-- what a call publishes is of its caller
pub of_caller : (settings : SettingsValue) (caller : ℕ)
    → OfCaller is_change (publishes settings) caller_of caller
of_caller settings caller before changes others (asked ask) op is = absurd cc
of_caller settings caller before changes others (looked look) op is = absurd cc
of_caller settings caller before changes others (changing change) op is =
    change_case (is_accepted (value_of settings before).state change) is where
      change_case : (t : Bool) → (if t then Some (changed caller changes change) else None)
          ≡ Some op
          → caller_of op ≡ caller
      change_case true is = let e : changed caller changes change ≡ op = cc is in
          ap caller_of (sym e)
      change_case false is = absurd cc
of_caller settings caller before changes others (keeping k) op is =
    keep_case (is_kept settings before k) is where
      keep_case : (t : Bool) → (if t then Some (kept caller others k) else None) ≡ Some op
          → caller_of op ≡ caller
      keep_case true is = let e : kept caller others k ≡ op = cc is in ap caller_of (sym e)
      keep_case false is = absurd cc

-- a change that is published fits
pub change_fits : (settings : SettingsValue) (before : List Operation) (caller changes others : ℕ)
    (change : ChangeValue) (op : Operation)
    → publishes settings before caller changes others (changing change) ≡ Some op
    → (op ≡ changed caller changes change) × Fits settings (value_of settings before) op
change_fits settings before caller changes others change op is =
    fit_case (is_accepted (value_of settings before).state change) refl is where
      fit_case : (t : Bool) → is_accepted (value_of settings before).state change ≡ t
          → (if t then Some (changed caller changes change) else None) ≡ Some op
          → (op ≡ changed caller changes change) × Fits settings (value_of settings before) op
      fit_case true accepted is = let e : changed caller changes change ≡ op = cc is in
          (sym e, subst (λ (o : Operation). Fits settings (value_of settings before) o) e accepted)
      fit_case false accepted is = absurd cc

-- tests that none of four passes
none_passes : (a b c d : Bool) → not (a || (b || (c || d))) ≡ true
    → (a ≡ false) × (b ≡ false) × (c ≡ false) × (d ≡ false)
none_passes true b c d is = absurd cc
none_passes false true c d is = absurd cc
none_passes false false true d is = absurd cc
none_passes false false false true is = absurd cc
none_passes false false false false is = (refl, refl, refl, refl)

no_ending : (o : Option Ending) → is_some o ≡ false → o ≡ None
no_ending None is = refl
no_ending (Some e) is = absurd cc

cheap : (k : Kept) → is_large k ≡ false → k.cost ≤ most_cost
cheap k is = cheap_case (nat_lt most_cost k.cost) refl is where
  cheap_case : (t : Bool) → nat_lt most_cost k.cost ≡ t → (t || nat_lt 8192 k.bytes) ≡ false
      → k.cost ≤ most_cost
  cheap_case true lt is = absurd cc
  cheap_case false lt is = grind (arith, nat_tests)

-- a delegation that was right where it was worked out, and is kept behind more operations, fits
-- there
pub kept_fits : (settings : SettingsValue) (ops more : List Operation) (k : Kept)
    → k.place ≡ place_of ops
    → IsRight (standing_rules settings (value_of settings ops).state)
    (named_in (value_of settings ops).state.book) k
    → is_kept settings (ops ++ more) k ≡ true → (caller others : ℕ)
    → Fits settings (value_of settings (ops ++ more)) (kept caller others k)
kept_fits settings ops more k place right is caller others =
    let whole = ops ++ more in
    let none = none_passes (is_large k) (is_late whole k) (is_had settings whole k)
    (are_spent whole) is in
    let here : place_of whole ≡ place_of ops = on_time (place_of whole == k.place) refl none.1 in
    let state = same_place settings ops more here in (
      rw state right,
      cheap k none.0,
      no_ending (found_in (value_of settings whole).cache k.path k.local) none.2,
    )
  where
    on_time : (t : Bool) → (place_of (ops ++ more) == k.place) ≡ t → not t ≡ false
        → place_of (ops ++ more) ≡ place_of ops
    on_time true e is = let h : place_of (ops ++ more) ≡ k.place = grind (arith, nat_tests) in
        h ∙ place
    on_time false e is = absurd cc
