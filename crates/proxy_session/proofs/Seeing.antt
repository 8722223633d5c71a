-- What a pass has seen grows from one moment of a stay to a later one, and its calls come behind
-- that.
use Rattle.std.proofs.Common.{◌≡◌, ◌⊎◌, ◌≤◌, ℕ, zero, suc, ◌||◌, Bool, List, [], ◌∷◌, ◌++◌}
use Rattle.std.proofs.Common.{length, sym, ap, ◌∙◌, inl, inr, append_assoc, length-append}
use Rattle.std.proofs.Common.{Option, Some, None, arith}
use Rattle.std.proofs.lemmas.List.{append-nil}
use Rattle.std.proofs.lemmas.List.Elements.{All-append, All-cons, All-nil, All-weaker}
use mathlib.Core.List.{IsPrefix}
use Rattle.addr_book.specs.declared.addr.Addr.{Addr}
use Rattle.http_wire.specs.declared.ended.Ended.{Ended}
use Rattle.http_wire.specs.declared.head.Head.{Head}
use Rattle.http_wire.specs.declared.paused.Paused.{Paused}
use Rattle.http_wire.specs.declared.paused.Paused.TheVariants as paused
use Rattle.identifier.specs.declared.rule.Rule.{Rule}
use Rattle.line_base.specs.Lines.{Line}
use Rattle.machine.specs.Values.{SettingsValue, AskValue, PickValue, none, replica}
use Rattle.replica_try.specs.declared.tried.Tried.{Tried}
use Rattle.retry_budget.specs.Budget.{BudgetValue}
use Rattle.router_log.specs.Call.{Call}
use Rattle.router_log.specs.Operation.{Operation}
use Rattle.proxy_session.specs.Answering.{report_of}
use Rattle.proxy_session.specs.Asking.{Finding, StopsAsking}
use Rattle.proxy_session.specs.Attempts.{Failed, FailedAttempt}
use Rattle.proxy_session.specs.Callers.{Caller, Holds, Makes, SeesMore}
use Rattle.proxy_session.specs.Exchange.{Exchanges, ReportDone, ReportFails, Settles, Standing}
use Rattle.proxy_session.specs.Laws.{CallsLater, StaysComeLater}
use Rattle.proxy_session.specs.Requests.{Requests, TriesAgain}
use Rattle.proxy_session.specs.Seeking.{Sought}
use Rattle.proxy_session.specs.Session.{Served, Serves, Stays, StaysTo, Stops, begun}
use Rattle.proxy_session.specs.Session.{having_told}
use Rattle.proxy_session.proofs.Attempting.{last_routes}

-- ---- one moment and a later one

abbrev IsLate : List Operation → Call × ℕ → Type 0
IsLate seen call = length seen ≤ call.1

later_so : (a b : Caller) → IsPrefix a.seen b.seen → b.items ≡ a.items → CallsLater a b
later_so a b seen items = record {
  seen = seen;
  made = [];
  items = items ∙ sym (append-nil a.items);
  late = All-nil (IsLate a.seen);
}

later_same : (a b : Caller) → b.seen ≡ a.seen → b.items ≡ a.items → CallsLater a b
later_same a b seen items = later_so a b ([], append-nil a.seen ∙ sym seen) items

later_is : (a b : Caller) → b ≡ a → CallsLater a b
later_is a b is =
    later_same a b (ap (λ (c : Caller). c.seen) is) (ap (λ (c : Caller). c.items) is)

no_shorter : (xs ys : List Operation) → IsPrefix xs ys → length xs ≤ length ys
no_shorter xs ys p = omega (arith, simp length-append at (ap length p.1))

still_late : (xs ys : List Operation) → IsPrefix xs ys → (call : Call × ℕ) → IsLate ys call
    → IsLate xs call
still_late xs ys p call late = omega (arith, no_shorter xs ys p, late)

later_on : (a b c : Caller) → CallsLater a b → CallsLater b c → CallsLater a c
later_on a b c p q = record {
  seen = (
    p.seen.0 ++ q.seen.0,
    sym (append_assoc a.seen p.seen.0 q.seen.0)
        ∙ (ap (λ (l : List Operation). l ++ q.seen.0) p.seen.1 ∙ q.seen.1),
  );
  made = p.made ++ q.made;
  items =
      q.items ∙ (ap (λ (l : List (Call × ℕ)). l ++ q.made) p.items
      ∙ append_assoc a.items p.made q.made);
  late =
      All-append (IsLate a.seen) p.made q.made p.late
      (All-weaker (IsLate b.seen) (IsLate a.seen) (still_late a.seen b.seen p.seen) q.made q.late);
}

-- ---- what an exchange calls

module _ (settings : SettingsValue) (old new : Caller) where
  call_later : (call : Call) (at : ℕ) → Makes settings old new call at → CallsLater old new
  call_later call at x = record {
    seen = x.before;
    made = (call, at) ∷ [];
    items = x.item;
    late = All-cons (IsLate old.seen) (call, at) [] x.late (All-nil (IsLate old.seen));
  }

module _ (settings : SettingsValue) (old new : Caller) where
  finding_later : (ask : AskValue) (said : PickValue) → Finding settings old new ask said
      → CallsLater old new
  finding_later ask said (inl finds) = call_later settings old new _ _ finds.asks.called
  finding_later ask said (inr (mid, misses, inl finds)) =
      later_on old mid new (call_later settings old mid _ _ misses.asks.called)
      (call_later settings mid new _ _ finds.asks.called)
  finding_later ask said (inr (mid, misses, inr (late, finds, keeps))) =
      later_on old late new
      (later_on old mid late (call_later settings old mid _ _ misses.asks.called)
      (call_later settings mid late _ _ finds.asks.called))
      (call_later settings late new _ _ keeps.returns.called)

  more_later : (a : Caller) → SeesMore a new → CallsLater a new
  more_later a more = later_so a new more.seen more.items

  stopping_later : (ask : AskValue) → StopsAsking settings old new ask → CallsLater old new
  stopping_later ask (mid, misses, inl asks) =
      later_on old mid new (call_later settings old mid _ _ misses.asks.called)
      (call_later settings mid new _ _ asks.0.called)
  stopping_later ask (mid, misses, inr (late, kept, said, finds, more)) =
      later_on old late new
      (later_on old mid late (call_later settings old mid _ _ misses.asks.called)
      (call_later settings mid late _ _ finds.asks.called))
      (more_later late more)

  asked_later : (ask : AskValue) → StopsAsking settings old new ask
      ⊎ ((said : PickValue) × Finding settings old new ask said) → CallsLater old new
  asked_later ask (inl stops) = stopping_later ask stops
  asked_later ask (inr (said, finds)) = finding_later ask said finds

  done_later : (r : Option Bool) (addr : Addr) (m n : Option (List ℕ))
      → ReportDone settings r addr old new m n → CallsLater old new
  done_later None addr m n done = later_is old new done.0
  done_later (Some good) addr m n done = call_later settings old new _ _ done.2.called

  fails_later : (r : Option Bool) (m n : Option (List ℕ)) → ReportFails r old new m n
      → CallsLater old new
  fails_later None m n fails = absurd fails
  fails_later (Some good) m n fails = more_later old fails.2

  settling_later : (head : Head) (last : Bool) (addr : Addr) (how : Tried)
      (m n : Option (List ℕ)) (line line_after : Line) (result : Option Ended)
      → Settles settings head last addr how old new m n line line_after result
      → CallsLater old new
  settling_later head last addr how m n line line_after result (inl done) =
      done_later (report_of how) addr m n done.0
  settling_later head last addr how m n line line_after result (inr fails) =
      fails_later (report_of how) m n fails.0

held_later : (old new : Caller) (slot : Option ℕ) → Holds old new slot → CallsLater old new
held_later old new slot x = later_same old new x.seen x.items

-- ---- a request

module _ (settings : SettingsValue) (rule : Rule) (head : Head) (last : Bool) where
  exchange_later : (old new : Standing) (r : Option Ended)
      → Exchanges settings rule head last old new r → CallsLater old.caller new.caller
  exchange_later old new r (inl x) = later_is old.caller new.caller x.nothing.caller
  exchange_later old new r (inr (inl x)) = later_is old.caller new.caller x.nothing.caller
  exchange_later old new r (inr (inr (sought, seeks, (moment, moments, draws, inl x)))) =
      asked_later settings old.caller new.caller _ x.asks
  exchange_later old new r (inr (inr (sought, seeks, (moment, moments, draws, inr (inl x))))) =
      finding_later settings old.caller new.caller _ (none x.why) x.finds
  exchange_later old new r (inr (inr (sought, seeks, (moment, moments, draws, inr (inr x))))) =
      let s = x.sent in
      later_on old.caller s.held new.caller
      (later_on old.caller x.found s.held
      (finding_later settings old.caller x.found _ (replica x.to) x.finds)
      (held_later x.found s.held x.to.slot s.holds))
      (settling_later settings s.held new.caller head last x.to.addr s.how moments new.moments
      s.between new.line r s.settles)

  attempt_later : (sought : Sought) (fewer : Bool) (budget : Option BudgetValue)
      (old new : Standing) → FailedAttempt settings head last sought fewer budget old new
      → CallsLater old.caller new.caller
  attempt_later sought fewer budget old new (moment, moments, draws, x) =
      let s = x.sent in
      later_on old.caller s.held new.caller
      (later_on old.caller x.found s.held
      (finding_later settings old.caller x.found _ (replica x.to) x.finds)
      (held_later x.found s.held x.to.slot s.holds))
      (done_later settings s.held new.caller (report_of s.how) x.to.addr moments new.moments
      s.reported)

  failed_later : (sought : Sought) (n : ℕ) (before behind : Option BudgetValue)
      (old new : Standing) → Failed settings head last sought n before behind old new
      → CallsLater old.caller new.caller
  failed_later sought zero before behind old new failed =
      later_is old.caller new.caller (ap (λ (s : Standing). s.caller) failed.1)
  failed_later sought (suc n) before behind old new (mid, between, failed, attempt, charged) =
      later_on old.caller mid.caller new.caller
      (failed_later sought n before between old mid failed)
      (attempt_later sought _ between mid new attempt)

  tries_later : (n : ℕ) (before behind : Option BudgetValue) (old new : Standing)
      (result : Option Ended)
      → TriesAgain settings rule head last n before behind old new result
      → CallsLater old.caller new.caller
  tries_later n before behind old new result (inl (inl x, untried)) =
      exchange_later old new result (inl x)
  tries_later n before behind old new result (inl (inr x, untried)) =
      exchange_later old new result (inr (inl x))
  tries_later n before behind old new result (inr (sought, seeks, (mid, failed, way))) =
      later_on old.caller mid.caller new.caller
      (failed_later sought n before behind old mid failed)
      (exchange_later mid new result
      (inr
      (inr (sought, seeks, last_routes settings head last sought _ behind mid new result way))))

  request_later : (n : ℕ) (before behind : Option BudgetValue) (old new : Standing)
      (result : Option Ended)
      → Requests settings rule head last n before behind old new result
      → CallsLater old.caller new.caller
  request_later n None behind old new result (untried, exchange) =
      exchange_later old new result exchange
  request_later n (Some b) behind old new result tries =
      tries_later n _ behind old new result tries

-- ---- a stay

module _ (settings : SettingsValue) (rule : Rule) where
  serves_later : (last : Bool) (n : ℕ) (before behind : Option BudgetValue)
      (old new : Standing) (r : Option Ended)
      → Serves settings rule last n before behind old new r → CallsLater old.caller new.caller
  serves_later last n before behind old new r (closing, x) =
      later_on old.caller x.mid.caller new.caller
      (later_is old.caller x.mid.caller x.reads.caller)
      (request_later settings rule x.head (last || closing) n before behind
      (having_told closing x.mid) new x.end x.request)

  served_later : (from n retries : ℕ) (before behind : Option BudgetValue) (old new : Standing)
      (r : Option Ended) → Served settings rule from n retries before behind old new r
      → CallsLater old.caller new.caller
  served_later from zero retries before behind old new r served =
      later_is old.caller new.caller (ap (λ (s : Standing). s.caller) served.1)
  served_later from (suc n) retries before behind old new r
      (mid, between, earlier, more, served, next, all) =
      later_on old.caller mid.caller new.caller
      (served_later from n earlier before between old mid None served)
      (serves_later _ more between behind mid new r next)

  stops_later : (old new : Standing) (end : Ended) → Stops old new end
      → CallsLater old.caller new.caller
  stops_later old new end (inl x) =
      later_is old.caller new.caller (x.nothing.caller ∙ x.reads.caller)
  stops_later old new end (inr x) =
      later_is old.caller new.caller (ap (λ (s : Standing). s.caller) x.closing)

  stays_later : (from n retries : ℕ) (before behind : Option BudgetValue) (old new : Standing)
      (result : Paused) → Stays settings rule from n retries before behind old new result
      → CallsLater old.caller new.caller
  stays_later from n retries before behind old new paused.Quiet
      (mid, served, (kept, still)) =
      later_on old.caller mid.caller new.caller
      (served_later from n retries before behind old mid None served)
      (later_is mid.caller new.caller (ap (λ (s : Standing). s.caller) still))
  stays_later from n retries before behind old new (paused.Ended end)
      (inl (mid, served, stops)) =
      later_on old.caller mid.caller new.caller
      (served_later from n retries before behind old mid None served)
      (stops_later mid new end stops)
  stays_later from n retries before behind old new (paused.Ended end) (inr served) =
      served_later from n retries before behind old new (Some end) served

pub stay_later : StaysComeLater
stay_later settings rule from upto before behind old new result x =
    stays_later settings rule from x.requests x.retries before behind (begun old) new result
    x.serves

-- a stay forgets nothing that was seen
pub stay_saw : (settings : SettingsValue) (rule : Rule) (from upto : ℕ)
    (before behind : Option BudgetValue) (old new : Standing) (result : Paused)
    → StaysTo settings rule from upto before behind old new result
    → IsPrefix old.caller.seen new.caller.seen
stay_saw settings rule from upto before behind old new result x =
    (stay_later settings rule from upto before behind old new result x).seen
