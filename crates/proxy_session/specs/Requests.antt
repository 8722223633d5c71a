-- One request on a connection, which may have a budget of retries.
use Rattle.std.specs.Prelude.{◌≡◌, ◌⊎◌, ℕ, Bool, Option, Some, None, Ok}
use Rattle.http_wire.specs.declared.ended.Ended.{Ended}
use Rattle.http_wire.specs.declared.head.Head.{Head}
use Rattle.identifier.specs.declared.rule.Rule.{Rule}
use Rattle.machine.specs.Values.{SettingsValue}
use Rattle.retry_budget.specs.Budget.{BudgetValue}
use Rattle.proxy_session.specs.Attempts.{Attempts, paid}
use Rattle.proxy_session.specs.Exchange.{Exchanges, IsRefused, Standing, StopsShort}
use Rattle.proxy_session.specs.Seeking.{Seeks, Sought}

-- no retry was spent
pub record IsUntried (n : ℕ) (before behind : Option BudgetValue) : Type 0 where
  pub none : n ≡ 0
  pub same : behind ≡ before

-- with so many retries out of a budget: it is refused, or memory was wanting, before anything was
-- asked; or it is routed, in one attempt more than it has retries
abbrev pub TriesAgain : SettingsValue → Rule → Head → Bool → ℕ → Option BudgetValue
    → Option BudgetValue → Standing → Standing → Option Ended → Type 0
TriesAgain settings rule head last n before behind old new result =
    ((IsRefused rule head last old new result ⊎ StopsShort old new result)
    × IsUntried n before behind)
    ⊎ ((sought : Sought) × Seeks rule head (Ok sought)
    × Attempts settings head last sought n before behind old new result)

-- Without a budget a request has one exchange. With one it pays in first, whatever becomes of it,
-- and is tried again as often as the budget grants it
abbrev pub Requests : SettingsValue → Rule → Head → Bool → ℕ → Option BudgetValue
    → Option BudgetValue → Standing → Standing → Option Ended → Type 0
Requests settings rule head last n None behind old new result =
    IsUntried n None behind × Exchanges settings rule head last old new result
Requests settings rule head last n (Some b) behind old new result =
    TriesAgain settings rule head last n (paid (Some b)) behind old new result
