-- A budget of retries, which is counted in requests.
use Rattle.std.specs.Prelude.{ℕ, ◌+◌, ◌-◌, ◌*◌, ◌≤◌, min, nat_le, Bool, true, false}
use Rattle.retry_budget.specs.declared.tries.Tries.{Tries}

-- a balance is counted in hundredths of a retry
abbrev pub retry : ℕ
retry = 100

-- a balance is no more than a thousand retries
abbrev pub most_balance : ℕ
most_balance = 100000

-- settings that a budget may have
abbrev pub AreAllowed : Tries → Type 0
AreAllowed tries = (tries.percent ≤ 100) × (tries.reserve ≤ 100) × (tries.most ≤ 10)

-- a budget's settings, and its balance
pub record BudgetValue : Type 0 where
  pub tries : Tries
  pub balance : ℕ

-- one of which nothing was spent, and into which nothing was paid
abbrev pub opening : Tries → BudgetValue
opening tries = record { tries = tries; balance = tries.reserve * retry }

-- a request pays in
abbrev pub behind_request : BudgetValue → BudgetValue
behind_request b =
    record { tries = b.tries; balance = min (b.balance + b.tries.percent) most_balance }

-- a spend is granted where the balance has a whole retry
abbrev pub can_spend : BudgetValue → Bool
can_spend b = nat_le retry b.balance

-- and takes it out then
abbrev pub behind_spend : Bool → BudgetValue → BudgetValue
behind_spend true b = record { tries = b.tries; balance = b.balance - retry }
behind_spend false b = b
