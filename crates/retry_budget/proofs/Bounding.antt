-- The retries that a budget grants are bounded by what was paid in.
use Rattle.std.proofs.Common.{◌≡◌, ℕ, ◌+◌, ◌-◌, ◌*◌, ◌/◌, ◌≤◌, nat_le, Bool, true, false, List, []}
use Rattle.std.proofs.Common.{◌∷◌, refl, subst, arith}
use Rattle.std.proofs.lemmas.Bool.Decides.{nat_tests}
use Rattle.retry_budget.specs.declared.tries.Tries.{Tries}
use Rattle.retry_budget.specs.Budget.{BudgetValue, behind_request, behind_spend, can_spend, opening}
use Rattle.retry_budget.specs.Laws.{Event, request, spend, granted, granted_of, requests_in}
use Rattle.retry_budget.specs.Laws.{RetriesAreBounded}

takes : (n : ℕ) → nat_le 100 n ≡ true → 100 + (n - 100) ≤ n
takes n is = grind (arith, nat_tests)

-- a spend takes a whole retry out, or nothing
pub spend_takes : (b : BudgetValue) (can : Bool) → can_spend b ≡ can
    → 100 * granted_of can + (behind_spend can b).balance ≤ b.balance
spend_takes b true is = takes b.balance is
spend_takes b false is = omega arith

-- the settings stay
pub spend_keeps : (b : BudgetValue) (can : Bool) → (behind_spend can b).tries ≡ b.tries
spend_keeps b true = refl
spend_keeps b false = refl

-- a request pays in no more than the percentage
pub request_pays : (b : BudgetValue)
    → (behind_request b).balance ≤ b.balance + b.tries.percent
request_pays b = omega arith

one_more : (percent n : ℕ) → percent * (1 + n) ≡ percent + percent * n
one_more percent n = grind arith

-- what was granted was in the balance, or paid in
pub granted_is_paid : (b : BudgetValue) (events : List Event)
    → 100 * granted b events ≤ b.balance + b.tries.percent * requests_in events
granted_is_paid b [] = omega arith
granted_is_paid b (request ∷ events) =
    let paid : 100 * granted (behind_request b) events
    ≤ (behind_request b).balance + b.tries.percent * requests_in events
    = granted_is_paid (behind_request b) events in
    let more : b.tries.percent * (1 + requests_in events)
    ≡ b.tries.percent + b.tries.percent * requests_in events
    = one_more b.tries.percent (requests_in events) in
    omega (arith, paid, more, request_pays b)
granted_is_paid b (spend ∷ events) =
    let can = can_spend b in
    let paid : 100 * granted (behind_spend can b) events
    ≤ (behind_spend can b).balance + b.tries.percent * requests_in events
    = subst
    (λ (t : Tries). 100 * granted (behind_spend can b) events
    ≤ (behind_spend can b).balance + t.percent * requests_in events)
    (spend_keeps b can)
    (granted_is_paid (behind_spend can b) events) in
    omega (arith, paid, spend_takes b can refl)

-- in whole retries
pub whole_retries : (n reserve paid : ℕ) → 100 * n ≤ reserve * 100 + paid
    → n ≤ reserve + paid / 100
whole_retries n reserve paid bound = omega (arith, bound)

pub retries_bounded : RetriesAreBounded
retries_bounded tries events =
    whole_retries _ _ _ (granted_is_paid (opening tries) events)
