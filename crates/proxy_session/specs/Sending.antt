-- What the parts of an exchange do, by what was found before.
use Rattle.std.specs.Prelude.{◌≡◌, ◌⊎◌, ◌<◌, ℕ, Bool, List, Option, Some, IfSome}
use Rattle.addr_book.specs.declared.addr.Addr.{Addr}
use Rattle.dtab_table.specs.Dtab.{rules_of}
use Rattle.http_wire.specs.declared.ended.Ended.{Ended}
use Rattle.http_wire.specs.declared.ended.Ended.TheVariants as ended
use Rattle.http_wire.specs.declared.head.Head.{Head}
use Rattle.machine.specs.declared.chosen.Why.{Why}
use Rattle.machine.specs.Values.{SettingsValue, AskValue}
use Rattle.retry_budget.specs.Budget.{BudgetValue}
use Rattle.router.specs.declared.names.Names.{Names}
use Rattle.proxy_session.specs.declared.asking.ReplicaPick.{ReplicaPick}
use Rattle.proxy_session.specs.declared.asking.ReplicaPick.TheVariants as pick
use Rattle.proxy_session.specs.declared.asking.Texts.{Texts}
use Rattle.proxy_session.specs.declared.attempt.Attempt.{Attempt}
use Rattle.proxy_session.specs.declared.attempt.Attempt.TheVariants as attempt
use Rattle.proxy_session.specs.declared.onward.Onward.{Onward}
use Rattle.own_reply.specs.declared.request.Refusal.{Refusal}
use Rattle.own_reply.specs.declared.request.Refusal.TheVariants as refusal
use Rattle.proxy_session.specs.Answering.{Refuses, own_of_why}
use Rattle.proxy_session.specs.Attempts.{IsLast, IsSentInVain, IsTriedInVain, LastWays, spent}
use Rattle.proxy_session.specs.Exchange.{AsksNothing, IsSent, Standing, StopsShort}
use Rattle.proxy_session.specs.AskAnswers.{client_in, residual_in}
use Rattle.proxy_session.specs.Onward.{IsHeadTo, host_for}
use Rattle.line_base.specs.Lines.{Line, Rests}
use Rattle.proxy_session.specs.Seeking.{Sought}

-- a request that is not routed is answered with its refusal, unless memory was wanting
abbrev pub RefusesAs : Refusal → Head → Bool → Line → Line → Option Ended → Type 0
RefusesAs (refusal.Own err) head last old new result = Refuses err head last old new result
RefusesAs refusal.OutOfMemory head last old new result =
    Rests old new × (result ≡ Some ended.OutOfMemory)

-- the slot of the replica, where it has one, is that of a load word
abbrev pub HasWord : ReplicaPick → Type 0
HasWord (pick.Replica choice texts) = IfSome choice.slot (λ slot. slot < 8192)
HasWord (pick.None why) = Unit {0}

-- nothing moved but the answer to the client
pub record AnswersAlone
    (err : Line → Line → Option Ended → Type 0) (old new : Standing) (result : Option Ended)
    : Type 0 where
  pub refuses : err old.line new.line result
  pub nothing : AsksNothing old new

-- the head of a request on its way to the replica at an address, with these texts of its names
abbrev pub IsHeadOf : Onward → Addr → Names → Texts → List ℕ → Type 0
IsHeadOf going addr names texts =
    IsHeadTo going.head.now (host_for going.host.now addr) going.target.now going.framing
    (rules_of going.ask.now.local)
    going.ask.now.path going.closes (client_in names texts) (residual_in names texts)

-- an attempt on the replica at an address, with a head of this kind
abbrev pub SendsSo : SettingsValue → Onward → Addr → Option ℕ → (List ℕ → Type 0)
    → Option BudgetValue → Option BudgetValue → Standing → Standing → Attempt → Type 0
SendsSo settings going addr slot IsHead before behind old new (attempt.Last result) =
    (behind ≡ before)
    × (StopsShort old new result
    ⊎ ((sent : IsSent settings going.head.now going.last going.framing addr slot IsHead old new
    result)
    × IsLast going.head.now going.framing going.fewer before sent.how result))
SendsSo settings going addr slot IsHead before behind old new attempt.Failed =
    (behind ≡ spent before)
    × IsSentInVain settings going.head.now going.last going.framing addr slot IsHead going.fewer
    before old new

-- there is no replica, and the client is told so
abbrev pub RefusesFound : Why → Onward → Option BudgetValue → Option BudgetValue → Standing
    → Standing → Attempt → Type 0
RefusesFound why going before behind old new (attempt.Last result) =
    (behind ≡ before)
    × AnswersAlone
    (λ line line_after r. Refuses (own_of_why why) going.head.now going.last line line_after r) old
    new result
RefusesFound why going before behind old new attempt.Failed = ⊥

abbrev pub SendsFound : SettingsValue → Onward → Names → ReplicaPick → Option BudgetValue
    → Option BudgetValue → Standing → Standing → Attempt → Type 0
SendsFound settings going names (pick.Replica choice texts) before behind old new how =
    SendsSo settings going choice.addr choice.slot (IsHeadOf going choice.addr names texts) before
    behind old new how
SendsFound settings going names (pick.None why) before behind old new how =
    RefusesFound why going before behind old new how

-- an attempt by an ask that was drawn
abbrev pub AsksSo : SettingsValue → Head → Bool → Sought → AskValue → Bool → Option BudgetValue
    → Option BudgetValue → Standing → Standing → Attempt → Type 0
AsksSo settings head last sought ask fewer before behind old new (attempt.Last result) =
    (new.words ≡ old.words) × (behind ≡ before)
    × LastWays settings head last sought ask fewer before old.moments old new result
AsksSo settings head last sought ask fewer before behind old new attempt.Failed =
    (new.words ≡ old.words) × (behind ≡ spent before)
    × IsTriedInVain settings head last sought ask fewer before old.moments old new
