-- The bound on all retries.
use Rattle.std.specs.Prelude.{ℕ, ◌+◌, ◌*◌, ◌/◌, ◌≤◌, Bool, true, false, List, [], ◌∷◌}
use Rattle.retry_budget.specs.declared.tries.Tries.{Tries}
use Rattle.retry_budget.specs.Budget.{BudgetValue, behind_request, behind_spend, can_spend, opening}

-- what happens to a budget
pub data Event : Type 0 where
  request : Event
  spend : Event

-- how many requests there are
abbrev pub requests_in : List Event → ℕ
requests_in [] = 0
requests_in (request ∷ events) = 1 + requests_in events
requests_in (spend ∷ events) = requests_in events

-- how many spends a budget grants
abbrev pub granted_of : Bool → ℕ
granted_of true = 1
granted_of false = 0

abbrev pub granted : BudgetValue → List Event → ℕ
granted b [] = 0
granted b (request ∷ events) = granted (behind_request b) events
granted b (spend ∷ events) =
    granted_of (can_spend b) + granted (behind_spend (can_spend b) b) events

abbrev pub RetriesAreBounded : Type 0
RetriesAreBounded =
    (tries : Tries) (events : List Event)
    → granted (opening tries) events ≤ tries.reserve + tries.percent * requests_in events / 100
