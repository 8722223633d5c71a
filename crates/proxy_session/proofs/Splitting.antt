-- A request is an exchange behind attempts that failed.
use Rattle.std.proofs.Common.{◌≡◌, ℕ, zero, suc, Bool, refl, sym, subst, ◌∙◌, inl, inr}
use Rattle.std.proofs.Common.{Option, Some, None}
use Rattle.http_wire.specs.declared.ended.Ended.{Ended}
use Rattle.http_wire.specs.declared.head.Head.{Head}
use Rattle.identifier.specs.declared.rule.Rule.{Rule}
use Rattle.line_base.specs.Lines.{Rests}
use Rattle.machine.specs.Values.{SettingsValue, replica}
use Rattle.retry_budget.specs.Budget.{BudgetValue}
use Rattle.proxy_session.specs.Answering.{report_of}
use Rattle.proxy_session.specs.Attempts.{Failed, FailedAttempt}
use Rattle.proxy_session.specs.Causes.{FitsLast, HasCauseOf, NoneFell}
use Rattle.proxy_session.specs.Exchange.{Exchanges, Standing}
use Rattle.proxy_session.specs.Requests.{Requests, TriesAgain}
use Rattle.proxy_session.specs.Seeking.{Sought}
use Rattle.proxy_session.proofs.Attempting.{last_routes}
use Rattle.replica_try.proofs.Closed.{tries_closed, tries_pool}
use Rattle.proxy_session.proofs.Fitting.{exchange_fits}
use Rattle.proxy_session.proofs.Lasting.{done_number, exchange_closed, exchange_pool}
use Rattle.proxy_session.proofs.Lasting.{exchange_number, finding_number}
use Rattle.replica_try.proofs.Resting.{rests_same}
use Rattle.proxy_session.proofs.Rising.{cause_on, exchange_done, none_fell_on, rests_fell}
use Rattle.proxy_session.proofs.Untouched.{rests_on}

-- nothing moved on the client's connection
pub record StaysPut (old new : Standing) : Type 0 where
  pub line : Rests old.line new.line
  pub kept : new.kept ≡ old.kept
  pub closed : old.upstream.open_to ≡ None → new.upstream.open_to ≡ None
  pub pool : new.upstream.pool ≡ old.upstream.pool
  pub number : new.caller.number ≡ old.caller.number

put_same : (a : Standing) → StaysPut a a
put_same a = record {
  line = rests_same a.line;
  kept = refl;
  closed = λ is. is;
  pool = refl;
  number = refl;
}

put_on : (a b c : Standing) → StaysPut a b → StaysPut b c → StaysPut a c
put_on a b c p q = record {
  line = rests_on a.line b.line c.line p.line q.line;
  kept = q.kept ∙ p.kept;
  closed = λ is. q.closed (p.closed is);
  pool = q.pool ∙ p.pool;
  number = q.number ∙ p.number;
}

module _ (settings : SettingsValue) (head : Head) (last : Bool) (sought : Sought) where
  attempt_stays : (fewer : Bool) (budget : Option BudgetValue) (old new : Standing)
      → FailedAttempt settings head last sought fewer budget old new → StaysPut old new
  attempt_stays fewer budget old new (moment, moments, draws, x) =
      let s = x.sent in
      record {
        line = s.line;
        kept = s.kept_is;
        closed =
            λ is. tries_closed head s.onward sought.framing last x.to.addr new.line new.kept
            new.upstream s.how old.line old.kept old.upstream s.tries;
        pool =
            tries_pool head s.onward sought.framing last x.to.addr new.line new.kept new.upstream
            s.how old.line old.kept old.upstream s.tries;
        number =
            done_number settings s.held new.caller (report_of s.how) x.to.addr moments new.moments
            s.reported
            ∙ (s.holds.number ∙ finding_number settings old.caller x.found _
            (replica x.to) x.finds);
      }

  pub failed_stay : (n : ℕ) (before behind : Option BudgetValue) (old new : Standing)
      → Failed settings head last sought n before behind old new → StaysPut old new
  failed_stay zero before behind old new failed =
      subst (StaysPut old) (sym failed.1) (put_same old)
  failed_stay (suc n) before behind old new (mid, between, failed, attempt, charged) =
      put_on old mid new (failed_stay n before between old mid failed)
      (attempt_stays _ between mid new attempt)

-- the exchange of a request, behind attempts that failed
abbrev pub SplitAt : SettingsValue → Rule → Head → Bool → Standing → Standing → Option Ended
    → Type 0
SplitAt settings rule head last old new result =
    (mid : Standing) × StaysPut old mid × Exchanges settings rule head last mid new result

tries_split : (settings : SettingsValue) (rule : Rule) (head : Head) (last : Bool) (n : ℕ)
    (before behind : Option BudgetValue) (old new : Standing) (result : Option Ended)
    → TriesAgain settings rule head last n before behind old new result
    → SplitAt settings rule head last old new result
tries_split settings rule head last n before behind old new result (inl (inl x, untried)) =
    (old, put_same old, inl x)
tries_split settings rule head last n before behind old new result (inl (inr x, untried)) =
    (old, put_same old, inr (inl x))
tries_split settings rule head last n before behind old new result
    (inr (sought, seeks, (mid, failed, way))) = (
      mid,
      failed_stay settings head last sought n before behind old mid failed,
      inr
          (inr (sought, seeks, last_routes settings head last sought _ behind mid new result way)),
    )

pub request_split : (settings : SettingsValue) (rule : Rule) (head : Head) (last : Bool) (n : ℕ)
    (before behind : Option BudgetValue) (old new : Standing) (result : Option Ended)
    → Requests settings rule head last n before behind old new result
    → SplitAt settings rule head last old new result
request_split settings rule head last n None behind old new result (untried, exchange) =
    (old, put_same old, exchange)
request_split settings rule head last n (Some b) behind old new result tries =
    tries_split settings rule head last n _ behind old new result tries

-- ---- what each request leaves as it was, and why it ends

module _ (settings : SettingsValue) (rule : Rule) (head : Head) (last : Bool) (n : ℕ)
    (before behind : Option BudgetValue) (old new : Standing) (result : Option Ended)
    (request : Requests settings rule head last n before behind old new result) where
  abbrev split : SplitAt settings rule head last old new result
  split = request_split settings rule head last n before behind old new result request

  pub request_fell : NoneFell old.line new.line
  request_fell =
      none_fell_on old.line split.0.line new.line
      (rests_fell old.line split.0.line split.1.line)
      (exchange_done settings rule head last split.0 new result split.2).0

  pub request_cause : HasCauseOf result old.line new.line
  request_cause =
      cause_on old.line split.0.line new.line result
      (rests_fell old.line split.0.line split.1.line)
      (exchange_done settings rule head last split.0 new result split.2).1

  pub request_fits : FitsLast last result
  request_fits = exchange_fits settings rule head last split.0 new result split.2

  pub request_closed : old.upstream.open_to ≡ None → new.upstream.open_to ≡ None
  request_closed is =
      exchange_closed settings rule head last split.0 new result split.2 (split.1.closed is)

  pub request_pool : new.upstream.pool ≡ old.upstream.pool
  request_pool =
      exchange_pool settings rule head last split.0 new result split.2 ∙ split.1.pool

  pub request_number : new.caller.number ≡ old.caller.number
  request_number =
      exchange_number settings rule head last split.0 new result split.2 ∙ split.1.number
