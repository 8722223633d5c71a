-- The attempts of a request that is routed. Each asks for a replica anew; all but the last failed,
-- and were granted one more.
use Rattle.std.specs.Prelude.{◌≡◌, ◌⊎◌, ℕ, zero, suc, ◌&&◌, nat_lt, Bool, not, true, false}
use Rattle.std.specs.Prelude.{List, Option, Some, None}
use Rattle.addr_book.specs.declared.addr.Addr.{Addr}
use Rattle.http_wire.specs.declared.ended.Ended.{Ended}
use Rattle.http_wire.specs.declared.ended.Ended.TheVariants as ended
use Rattle.http_wire.specs.declared.frames.Framing.{Framing}
use Rattle.http_wire.specs.declared.head.Head.{Head}
use Rattle.line_base.specs.Lines.{Rests}
use Rattle.line_base.specs.Dials.{has_room}
use Rattle.machine.specs.Values.{SettingsValue, AskValue, Replica, replica}
use Rattle.retry_budget.specs.Budget.{BudgetValue, behind_request, behind_spend, can_spend}
use Rattle.replica_try.specs.declared.tried.Tried.{Tried}
use Rattle.replica_try.specs.declared.tried.Tried.TheVariants as tried
use Rattle.proxy_session.specs.Answering.{report_of}
use Rattle.proxy_session.specs.Asking.{Finding, drawn}
use Rattle.proxy_session.specs.Callers.{Caller, Holds}
use Rattle.proxy_session.specs.Exchange.{Draws, IsTried, IsUnbound, ReportDone, Standing}
use Rattle.proxy_session.specs.Exchange.{StopsAsked, having_asked}
use Rattle.proxy_session.specs.Onward.{IsForwarded}
use Rattle.proxy_session.specs.Seeking.{Sought}
use Rattle.replica_try.specs.Trying.{Tries, is_repeatable}

-- ---- which tries are followed by another attempt

-- a try behind which the request may be sent to another replica: the first was not reached, or gave
-- no reply to a request that may be repeated
abbrev pub may_repeat : Head → Framing → Tried → Bool
may_repeat head framing tried.NotDialed = true
may_repeat head framing (tried.NotSent moved) = is_repeatable head framing
may_repeat head framing (tried.Silent moved) = is_repeatable head framing
may_repeat head framing (tried.NoReply moved) = is_repeatable head framing
may_repeat head framing (tried.BadBody moved) = false
may_repeat head framing (tried.LongBody moved) = false
may_repeat head framing (tried.BodyCut moved) = false
may_repeat head framing (tried.BodyFault moved) = false
may_repeat head framing (tried.ReplyCut moved status) = false
may_repeat head framing (tried.WrittenShort moved status) = false
may_repeat head framing (tried.Whole moved status closes reusable) = false
may_repeat head framing (tried.OutOfMemory moved status) = false

-- how many retries a request may have: none, where there is no budget
abbrev pub most_of : Option BudgetValue → ℕ
most_of None = 0
most_of (Some b) = b.tries.most

-- a retry is there
abbrev pub has_retry : Option BudgetValue → Bool
has_retry None = false
has_retry (Some b) = can_spend b

-- a request pays in, and a retry that is granted is taken out
abbrev pub paid : Option BudgetValue → Option BudgetValue
paid None = None
paid (Some b) = Some (behind_request b)

abbrev pub spent : Option BudgetValue → Option BudgetValue
spent None = None
spent (Some b) = Some (behind_spend true b)

abbrev pub behind_grant : Bool → Option BudgetValue → Option BudgetValue
behind_grant true budget = spent budget
behind_grant false budget = budget

-- another attempt follows a try exactly where the request may be sent again, the request has fewer
-- retries than it may have, and the budget has one
abbrev pub is_followed : Head → Framing → Bool → Option BudgetValue → Tried → Bool
is_followed head framing fewer budget how =
    may_repeat head framing how && (fewer && has_retry budget)

-- ---- attempts

-- The replica at an address is tried with a head of this kind, and another attempt follows. The
-- replica is reported as ever. Nothing moved on the client's connection, which is told nothing
pub record IsSentInVain
    (settings : SettingsValue) (head : Head) (last : Bool) (framing : Framing) (addr : Addr)
    (slot : Option ℕ)
    (IsHead : List ℕ → Type 0) (fewer : Bool) (budget : Option BudgetValue) (old new : Standing)
    : Type 0 where
  pub onward : List ℕ
  pub is_head : IsHead onward
  pub how : Tried
  pub followed : is_followed head framing fewer budget how ≡ true
  pub tries :
      Tries head onward framing last addr old.line new.line old.kept new.kept old.upstream
      new.upstream how
  pub held : Caller
  pub holds : Holds old.caller held slot
  pub reported : ReportDone settings (report_of how) addr held new.caller old.moments new.moments
  pub words_are : new.words ≡ old.words
  pub line : Rests old.line new.line
  pub kept_is : new.kept ≡ old.kept

-- the replica that was found for an ask is tried in vain
pub record IsTriedInVain
    (settings : SettingsValue) (head : Head) (last : Bool) (sought : Sought) (ask : AskValue)
    (fewer : Bool) (budget : Option BudgetValue) (moments : Option (List ℕ)) (old new : Standing)
    : Type 0 where
  pub to : Replica
  pub found : Caller
  pub finds : Finding settings old.caller found ask (replica to)
  pub sent :
      IsSentInVain settings head last sought.framing to.addr to.slot
      (IsForwarded head sought (not (has_room old.upstream.pool)) to)
      fewer budget (having_asked old found moments new.words) new

-- no attempt follows a try that was answered so: it is not one that is followed, or memory was
-- wanting
abbrev pub IsLast : Head → Framing → Bool → Option BudgetValue → Tried → Option Ended → Type 0
IsLast head framing fewer budget how result =
    (is_followed head framing fewer budget how ≡ false) ⊎ (result ≡ Some ended.OutOfMemory)

-- the ways of a last attempt are those of an exchange
abbrev pub LastWays : SettingsValue → Head → Bool → Sought → AskValue → Bool → Option BudgetValue
    → Option (List ℕ) → Standing → Standing → Option Ended → Type 0
LastWays settings head last sought ask fewer budget moments old new result =
    StopsAsked settings ask moments old new result
    ⊎ (IsUnbound settings head last ask moments old new result
    ⊎ ((sent : IsTried settings head last sought ask moments old new result)
    × IsLast head sought.framing fewer budget sent.sent.how result))

-- each attempt asks with three words of its own and the clock's next moment
abbrev pub FailedAttempt : SettingsValue → Head → Bool → Sought → Bool → Option BudgetValue
    → Standing → Standing → Type 0
FailedAttempt settings head last sought fewer budget old new =
    (moment : ℕ) × (moments : Option (List ℕ))
    × Draws old.moments moments old.words new.words moment
    × IsTriedInVain settings head last sought (drawn sought.path sought.rules moment old.words)
    fewer budget moments old new

abbrev pub LastAttempt : SettingsValue → Head → Bool → Sought → Bool → Option BudgetValue
    → Standing → Standing → Option Ended → Type 0
LastAttempt settings head last sought fewer budget old new result =
    (moment : ℕ) × (moments : Option (List ℕ))
    × Draws old.moments moments old.words new.words moment
    × LastWays settings head last sought (drawn sought.path sought.rules moment old.words) fewer
    budget moments old new result

-- so many attempts failed, and each was granted one more
abbrev pub Failed : SettingsValue → Head → Bool → Sought → ℕ → Option BudgetValue
    → Option BudgetValue → Standing → Standing → Type 0
Failed settings head last sought zero before behind old new = (behind ≡ before) × (new ≡ old)
Failed settings head last sought (suc n) before behind old new =
    (mid : Standing) × (between : Option BudgetValue)
    × Failed settings head last sought n before between old mid
    × FailedAttempt settings head last sought (nat_lt n (most_of between)) between mid new
    × (behind ≡ spent between)

-- so many attempts failed, and behind them comes the last one. What is written to the client, and
-- how the request ends, is what the last one gives
abbrev pub Attempts : SettingsValue → Head → Bool → Sought → ℕ → Option BudgetValue
    → Option BudgetValue → Standing → Standing → Option Ended → Type 0
Attempts settings head last sought n before behind old new result =
    (mid : Standing) × Failed settings head last sought n before behind old mid
    × LastAttempt settings head last sought (nat_lt n (most_of behind)) behind mid new result
