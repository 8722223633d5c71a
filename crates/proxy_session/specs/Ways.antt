-- What a request was, in numbers: a function of the way that its relation gives.
use Rattle.std.specs.Prelude.{◌≡◌, ◌⊎◌, ℕ, zero, suc, nat_lt, Bool, true, false, List}
use Rattle.std.specs.Prelude.{Option, Some, None}
use mathlib.Core.Logic.{inl, inr}
use Rattle.addr_book.specs.declared.addr.Addr.{Addr}
use Rattle.exchange_tally.specs.declared.done.Done.{Done}
use Rattle.http_wire.specs.declared.ended.Ended.{Ended}
use Rattle.http_wire.specs.declared.head.Head.{Head}
use Rattle.identifier.specs.declared.rule.Rule.{Rule}
use Rattle.machine.specs.declared.chosen.Why.{Why}
use Rattle.machine.specs.Values.{SettingsValue, AskValue, PickValue}
use Rattle.name_tree.specs.Path.{Labels}
use Rattle.retry_budget.specs.Budget.{BudgetValue}
use Rattle.router.specs.declared.names.Names.{Names}
use Rattle.proxy_session.specs.declared.asking.ReplicaPick.{ReplicaPick}
use Rattle.proxy_session.specs.declared.asking.ReplicaPick.TheVariants as pick
use Rattle.proxy_session.specs.declared.attempt.Attempt.{Attempt}
use Rattle.proxy_session.specs.declared.attempt.Attempt.TheVariants as attempt
use Rattle.proxy_session.specs.declared.onward.Onward.{Onward}
use Rattle.own_reply.specs.declared.request.Refusal.{Refusal}
use Rattle.own_reply.specs.declared.request.Refusal.TheVariants as refusal
use Rattle.proxy_session.specs.Answering.{own_of_why}
use Rattle.proxy_session.specs.Asking.{Finding, StopsAsking, drawn}
use Rattle.proxy_session.specs.Attempts.{Attempts, Failed, LastAttempt, LastWays, most_of, paid}
use Rattle.proxy_session.specs.Callers.{Caller}
use Rattle.proxy_session.specs.Done.{followed_by, nothing_done, refused_done, stopped_done}
use Rattle.proxy_session.specs.Done.{tried_done, unbound_done, vain_done}
use Rattle.proxy_session.specs.Exchange.{Exchanges, Routes, Standing}
use Rattle.proxy_session.specs.Requests.{Requests, TriesAgain}
use Rattle.proxy_session.specs.Seeking.{Sought}
use Rattle.proxy_session.specs.Sending.{AsksSo, IsHeadOf, RefusesFound, SendsSo}

-- which of two it is
abbrev pub is_first : {A B : Type 0} → A ⊎ B → Bool
is_first (inl a) = true
is_first (inr b) = false

-- a delegation was kept for an ask: one that stopped before its answer found none
abbrev pub asked_hit : (settings : SettingsValue) (old new : Caller) (ask : AskValue)
    → StopsAsking settings old new ask
    ⊎ ((said : PickValue) × Finding settings old new ask said) → Bool
asked_hit settings old new ask (inl stops) = false
asked_hit settings old new ask (inr (said, finds)) = is_first finds

-- ---- a last attempt, and those that failed before it

abbrev pub ways_done : (settings : SettingsValue) (head : Head) (last : Bool) (sought : Sought)
    (ask : AskValue) (fewer : Bool) (budget : Option BudgetValue) (moments : Option (List ℕ))
    (old new : Standing) (result : Option Ended)
    → LastWays settings head last sought ask fewer budget moments old new result → Done
ways_done settings head last sought ask fewer budget moments old new result (inl x) =
    stopped_done (asked_hit settings old.caller new.caller ask x.asks) result
ways_done settings head last sought ask fewer budget moments old new result (inr (inl x)) =
    unbound_done (is_first x.finds) (own_of_why x.why) head result
ways_done settings head last sought ask fewer budget moments old new result (inr (inr (x, is))) =
    tried_done (is_first x.finds) x.to.addr x.sent.how (is_first x.sent.settles) head result

abbrev pub last_done : (settings : SettingsValue) (head : Head) (last : Bool) (sought : Sought)
    (fewer : Bool) (budget : Option BudgetValue) (old new : Standing) (result : Option Ended)
    → LastAttempt settings head last sought fewer budget old new result → Done
last_done settings head last sought fewer budget old new result (moment, moments, draws, ways) =
    ways_done settings head last sought (drawn sought.path sought.rules moment old.words) fewer
    budget
    moments old new result ways

abbrev pub failed_done : (settings : SettingsValue) (head : Head) (last : Bool) (sought : Sought)
    (n : ℕ) (before behind : Option BudgetValue) (old new : Standing)
    → Failed settings head last sought n before behind old new → Done
failed_done settings head last sought zero before behind old new failed = nothing_done None
failed_done settings head last sought (suc n) before behind old new
    (mid, between, failed, (moment, moments, draws, vain), charged) =
    followed_by (failed_done settings head last sought n before between old mid failed)
    (vain_done (is_first vain.finds) vain.to.addr vain.sent.how)

abbrev pub attempts_done : (settings : SettingsValue) (head : Head) (last : Bool) (sought : Sought)
    (n : ℕ) (before behind : Option BudgetValue) (old new : Standing) (result : Option Ended)
    → Attempts settings head last sought n before behind old new result → Done
attempts_done settings head last sought n before behind old new result (mid, failed, way) =
    followed_by (failed_done settings head last sought n before behind old mid failed)
    (last_done settings head last sought (nat_lt n (most_of behind)) behind mid new result way)

-- ---- a request

abbrev pub routes_done : (settings : SettingsValue) (head : Head) (last : Bool) (sought : Sought)
    (old new : Standing) (result : Option Ended)
    → Routes settings head last sought old new result → Done
routes_done settings head last sought old new result (moment, moments, draws, inl x) =
    stopped_done
    (asked_hit settings old.caller new.caller (drawn sought.path sought.rules moment old.words)
    x.asks) result
routes_done settings head last sought old new result (moment, moments, draws, inr (inl x)) =
    unbound_done (is_first x.finds) (own_of_why x.why) head result
routes_done settings head last sought old new result (moment, moments, draws, inr (inr x)) =
    tried_done (is_first x.finds) x.to.addr x.sent.how (is_first x.sent.settles) head result

abbrev pub exchange_done : (settings : SettingsValue) (rule : Rule) (head : Head) (last : Bool)
    (old new : Standing) (result : Option Ended)
    → Exchanges settings rule head last old new result → Done
exchange_done settings rule head last old new result (inl x) = refused_done x.err head result
exchange_done settings rule head last old new result (inr (inl x)) = nothing_done result
exchange_done settings rule head last old new result (inr (inr (sought, seeks, routes))) =
    routes_done settings head last sought old new result routes

abbrev pub tries_done : (settings : SettingsValue) (rule : Rule) (head : Head) (last : Bool)
    (n : ℕ) (before behind : Option BudgetValue) (old new : Standing) (result : Option Ended)
    → TriesAgain settings rule head last n before behind old new result → Done
tries_done settings rule head last n before behind old new result (inl (inl x, untried)) =
    refused_done x.err head result
tries_done settings rule head last n before behind old new result (inl (inr x, untried)) =
    nothing_done result
tries_done settings rule head last n before behind old new result
    (inr (sought, seeks, attempts)) =
    attempts_done settings head last sought n before behind old new result attempts

abbrev pub request_done : (settings : SettingsValue) (rule : Rule) (head : Head) (last : Bool)
    (n : ℕ) (before behind : Option BudgetValue) (old new : Standing) (result : Option Ended)
    → Requests settings rule head last n before behind old new result → Done
request_done settings rule head last n None behind old new result (untried, exchange) =
    exchange_done settings rule head last old new result exchange
request_done settings rule head last n (Some b) behind old new result tries =
    tries_done settings rule head last n (paid (Some b)) behind old new result tries

-- the path that a request was identified as, where it was routed
abbrev pub exchange_name : (settings : SettingsValue) (rule : Rule) (head : Head) (last : Bool)
    (old new : Standing) (result : Option Ended)
    → Exchanges settings rule head last old new result → Option Labels
exchange_name settings rule head last old new result (inl x) = None
exchange_name settings rule head last old new result (inr (inl x)) = None
exchange_name settings rule head last old new result (inr (inr (sought, seeks, routes))) =
    Some sought.path

abbrev pub tries_name : (settings : SettingsValue) (rule : Rule) (head : Head) (last : Bool)
    (n : ℕ) (before behind : Option BudgetValue) (old new : Standing) (result : Option Ended)
    → TriesAgain settings rule head last n before behind old new result → Option Labels
tries_name settings rule head last n before behind old new result (inl x) = None
tries_name settings rule head last n before behind old new result
    (inr (sought, seeks, attempts)) =
    Some sought.path

abbrev pub request_name : (settings : SettingsValue) (rule : Rule) (head : Head) (last : Bool)
    (n : ℕ) (before behind : Option BudgetValue) (old new : Standing) (result : Option Ended)
    → Requests settings rule head last n before behind old new result → Option Labels
request_name settings rule head last n None behind old new result (untried, exchange) =
    exchange_name settings rule head last old new result exchange
request_name settings rule head last n (Some b) behind old new result tries =
    tries_name settings rule head last n (paid (Some b)) behind old new result tries

-- a request was served in some way, and this is the path that it named, and what it was
abbrev pub RequestsAs : SettingsValue → Rule → Head → Bool → ℕ → Option BudgetValue
    → Option BudgetValue → Standing → Standing → Option Ended → Option Labels → Done → Type 0
RequestsAs settings rule head last n before behind old new result name done =
    (way : Requests settings rule head last n before behind old new result)
    × (name ≡ request_name settings rule head last n before behind old new result way)
    × (done ≡ request_done settings rule head last n before behind old new result way)

-- so were its attempts
abbrev pub AttemptsAs : SettingsValue → Head → Bool → Sought → ℕ → Option BudgetValue
    → Option BudgetValue → Standing → Standing → Option Ended → Done → Type 0
AttemptsAs settings head last sought n before behind old new result done =
    (way : Attempts settings head last sought n before behind old new result)
    × (done ≡ attempts_done settings head last sought n before behind old new result way)

-- a request that is not routed
abbrev pub refusal_done : Refusal → Head → Option Ended → Done
refusal_done (refusal.Own err) head end = refused_done err head end
refusal_done refusal.OutOfMemory head end = nothing_done end

-- ---- an attempt, as the code has it

abbrev pub asks_done : (settings : SettingsValue) (head : Head) (last : Bool) (sought : Sought)
    (ask : AskValue) (fewer : Bool) (before behind : Option BudgetValue) (old new : Standing)
    (how : Attempt) → AsksSo settings head last sought ask fewer before behind old new how → Done
asks_done settings head last sought ask fewer before behind old new (attempt.Last result)
    (words, kept, ways) =
    ways_done settings head last sought ask fewer before old.moments old new result ways
asks_done settings head last sought ask fewer before behind old new attempt.Failed
    (words, charged, vain) =
    vain_done (is_first vain.finds) vain.to.addr vain.sent.how

abbrev pub AsksAs : SettingsValue → Head → Bool → Sought → AskValue → Bool → Option BudgetValue
    → Option BudgetValue → Standing → Standing → Attempt → Done → Type 0
AsksAs settings head last sought ask fewer before behind old new how done =
    (way : AsksSo settings head last sought ask fewer before behind old new how)
    × (done ≡ asks_done settings head last sought ask fewer before behind old new how way)

abbrev pub sends_done : (settings : SettingsValue) (going : Onward) (addr : Addr)
    (slot : Option ℕ) (IsHead : List ℕ → Type 0) (before behind : Option BudgetValue)
    (old new : Standing) (how : Attempt)
    → SendsSo settings going addr slot IsHead before behind old new how → Done
sends_done settings going addr slot IsHead before behind old new (attempt.Last result)
    (kept, inl x) = stopped_done going.hit result
sends_done settings going addr slot IsHead before behind old new (attempt.Last result)
    (kept, inr (sent, is)) =
    tried_done going.hit addr sent.how (is_first sent.settles) going.head.now result
sends_done settings going addr slot IsHead before behind old new attempt.Failed (charged, vain) =
    vain_done going.hit addr vain.how

abbrev pub SendsAs : SettingsValue → Onward → Addr → Option ℕ → (List ℕ → Type 0)
    → Option BudgetValue → Option BudgetValue → Standing → Standing → Attempt → Done → Type 0
SendsAs settings going addr slot IsHead before behind old new how done =
    (way : SendsSo settings going addr slot IsHead before behind old new how)
    × (done ≡ sends_done settings going addr slot IsHead before behind old new how way)

abbrev pub refuses_done : Why → Onward → Attempt → Done
refuses_done why going (attempt.Last result) =
    unbound_done going.hit (own_of_why why) going.head.now result
refuses_done why going attempt.Failed = nothing_done None

-- what was done for what was found
abbrev pub FoundAs : SettingsValue → Onward → Names → ReplicaPick → Option BudgetValue
    → Option BudgetValue → Standing → Standing → Attempt → Done → Type 0
FoundAs settings going names (pick.Replica choice texts) before behind old new how done =
    SendsAs settings going choice.addr choice.slot (IsHeadOf going choice.addr names texts) before
    behind old new how done
FoundAs settings going names (pick.None why) before behind old new how done =
    RefusesFound why going before behind old new how × (done ≡ refuses_done why going how)
