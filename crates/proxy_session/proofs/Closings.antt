-- No exchange asks whether the listeners are closing, or waits for a further request.
use Rattle.std.proofs.Common.{◌≡◌, ℕ, Bool, List, ◌∙◌, inl, inr, Option, Result, Ok, Err}
use Rattle.addr_book.specs.declared.addr.Addr.{Addr}
use Rattle.http_wire.specs.declared.ended.Ended.{Ended}
use Rattle.http_wire.specs.declared.ended.Ended.TheVariants as ended
use Rattle.http_wire.specs.declared.frames.Framing.{Framing}
use Rattle.http_wire.specs.declared.head.Head.{Head}
use Rattle.identifier.specs.declared.rule.Rule.{Rule}
use Rattle.machine.specs.Values.{SettingsValue}
use Rattle.own_reply.specs.declared.error.OwnError.{OwnError}
use Rattle.replica_try.specs.declared.tried.Tried.{Tried}
use Rattle.replica_try.specs.declared.tried.Tried.TheVariants as tried
use Rattle.proxy_session.specs.Answering.{Ends, Refuses, Writes}
use Rattle.proxy_session.specs.Callers.{Caller}
use Rattle.proxy_session.specs.Exchange.{Exchanges, Settles, Standing}
use Rattle.line_base.specs.Dials.{Upstream}
use Rattle.line_base.specs.Lines.{Line, Rests}
use Rattle.replica_try.specs.Trying.{Converses, Replies, Tries, TriesAnew}
use Rattle.proxy_session.specs.Requests.{Requests}
use Rattle.retry_budget.specs.Budget.{BudgetValue}
use Rattle.proxy_session.proofs.Splitting.{request_split}

-- the connection said neither that they are closing nor that nothing came for a while
pub record SaysNeither (old new : Line) : Type 0 where
  pub closings : new.closings ≡ old.closings
  pub quiets : new.quiets ≡ old.quiets

pub neither_on : (a b c : Line) → SaysNeither a b → SaysNeither b c → SaysNeither a c
neither_on a b c p q =
    record { closings = q.closings ∙ p.closings; quiets = q.quiets ∙ p.quiets }

pub rests_quiet : (a b : Line) → Rests a b → SaysNeither a b
rests_quiet a b r = record { closings = r.closings; quiets = r.quiets }

pub writes_quiet : (old new : Line) (reply : List ℕ) (told : Result (Unit {0}) Ended)
    → Writes old new reply told → SaysNeither old new
writes_quiet old new reply (Ok x) done =
    record { closings = done.0.closings; quiets = done.0.quiets }
writes_quiet old new reply (Err ended.WriteFault) (sent, gives, fits, fault) =
    record { closings = gives.closings; quiets = gives.quiets }
writes_quiet old new reply (Err ended.OutOfMemory) rests =
    record { closings = rests.closings; quiets = rests.quiets }
writes_quiet old new reply (Err ended.PeerEnded) never = absurd never
writes_quiet old new reply (Err ended.Cut) never = absurd never
writes_quiet old new reply (Err ended.Closed) never = absurd never
writes_quiet old new reply (Err ended.Spent) never = absurd never
writes_quiet old new reply (Err ended.Drained) never = absurd never
writes_quiet old new reply (Err ended.ReadFault) never = absurd never
writes_quiet old new reply (Err ended.UpstreamCut) never = absurd never

refuses_quiet : (err : OwnError) (head : Head) (last : Bool) (old new : Line)
    (result : Option Ended) → Refuses err head last old new result → SaysNeither old new
refuses_quiet err head last old new result (told, wrote, is) = writes_quiet old new _ told wrote

ends_quiet : (how : Tried) (head : Head) (last : Bool) (old new : Line) (result : Option Ended)
    → Ends how head last old new result → SaysNeither old new
ends_quiet tried.NotDialed head last old new result done =
    refuses_quiet _ head last old new result done
ends_quiet (tried.NotSent moved) head last old new result done =
    refuses_quiet _ head last old new result done
ends_quiet (tried.NoReply moved) head last old new result done =
    refuses_quiet _ head last old new result done
ends_quiet (tried.Silent moved) head last old new result done =
    refuses_quiet _ head last old new result done
ends_quiet (tried.BadBody moved) head last old new result done =
    refuses_quiet _ head last old new result done
ends_quiet (tried.LongBody moved) head last old new result done =
    refuses_quiet _ head last old new result done
ends_quiet (tried.BodyCut moved) head last old new result done =
    record { closings = done.0.closings; quiets = done.0.quiets }
ends_quiet (tried.BodyFault moved) head last old new result done =
    record { closings = done.0.closings; quiets = done.0.quiets }
ends_quiet (tried.ReplyCut moved status) head last old new result done =
    record { closings = done.0.closings; quiets = done.0.quiets }
ends_quiet (tried.WrittenShort moved status) head last old new result done =
    record { closings = done.0.closings; quiets = done.0.quiets }
ends_quiet (tried.OutOfMemory moved status) head last old new result done =
    record { closings = done.0.closings; quiets = done.0.quiets }
ends_quiet (tried.Whole moved status closes reusable) head last old new result done =
    record { closings = done.0.closings; quiets = done.0.quiets }

settles_quiet : (settings : SettingsValue) (head : Head) (last : Bool) (addr : Addr) (how : Tried)
    (c d : Caller) (m n : Option (List ℕ)) (old new : Line) (result : Option Ended)
    → Settles settings head last addr how c d m n old new result → SaysNeither old new
settles_quiet settings head last addr how c d m n old new result (inl done) =
    ends_quiet how head last old new result done.1
settles_quiet settings head last addr how c d m n old new result (inr fails) =
    record { closings = fails.1.closings; quiets = fails.1.quiets }

replies_quiet : (head : Head) (last : Bool) (n : ℕ) (old new : Line) (faults faults_now : ℕ)
    (got : List (List ℕ)) (how : Tried) → Replies head last n old new faults faults_now got how
    → SaysNeither old new
replies_quiet head last n old new faults faults_now got how
    (inl (fault, kept, hears, same, is)) = record { closings = same.closings; quiets = same.quiets }
replies_quiet head last n old new faults faults_now got how
    (inr (reply, framing, kept, between, before, behind, hears, inl stops, is)) =
    record { closings = stops.0.closings; quiets = stops.0.quiets }
replies_quiet head last n old new faults faults_now got how
    (inr (
      reply,
      framing,
      kept,
      between,
      before,
      behind,
      hears,
      inr (kept_after, result, goes, way),
      is,
    )) =
    record { closings = goes.closings; quiets = goes.quiets }

converses_quiet : (head : Head) (onward : List ℕ) (framing : Framing) (last : Bool)
    (old new : Line) (kept kept_after : List ℕ) (faults faults_now : ℕ) (sent : List ℕ)
    (got : List (List ℕ)) (how : Tried)
    → Converses head onward framing last old new kept kept_after faults faults_now sent got how
    → SaysNeither old new
converses_quiet head onward framing last old new kept kept_after faults faults_now sent got how
    (inl (end, goes, nothing, is)) =
    record { closings = goes.closings; quiets = goes.quiets }
converses_quiet head onward framing last old new kept kept_after faults faults_now sent got how
    (inr (n, mid, between, goes, came)) =
    neither_on old mid new (record { closings = goes.closings; quiets = goes.quiets })
    (replies_quiet head last n mid new between faults_now got how came)

anew_quiet : (head : Head) (onward : List ℕ) (framing : Framing) (last : Bool) (addr : Addr)
    (old new : Line) (kept kept_after : List ℕ) (before now : Upstream) (how : Tried)
    → TriesAnew head onward framing last addr old new kept kept_after before now how
    → SaysNeither old new
anew_quiet head onward framing last addr old new kept kept_after before now how (inl none) =
    record { closings = none.line.closings; quiets = none.line.quiets }
anew_quiet head onward framing last addr old new kept kept_after before now how (inr visit) =
    converses_quiet head onward framing last old new kept kept_after before.faults now.faults _
    visit.got how visit.spoke

tries_quiet : (head : Head) (onward : List ℕ) (framing : Framing) (last : Bool) (addr : Addr)
    (old new : Line) (kept kept_after : List ℕ) (before now : Upstream) (how : Tried)
    → Tries head onward framing last addr old new kept kept_after before now how
    → SaysNeither old new
tries_quiet head onward framing last addr old new kept kept_after before now how (inl anew) =
    anew_quiet head onward framing last addr old new kept kept_after before now how anew
tries_quiet head onward framing last addr old new kept kept_after before now how
    (inr (any, again, inl answered)) =
    converses_quiet head onward framing last old new kept kept_after before.faults now.faults _
    answered.visit.got how answered.visit.spoke
tries_quiet head onward framing last addr old new kept kept_after before now how
    (inr (any, again, inr t)) =
    neither_on old t.line new
    (converses_quiet head onward framing last old t.line kept t.left before.faults t.mid.faults _
    t.visit.got t.first t.visit.spoke)
    (anew_quiet head onward framing last addr t.line new t.left kept_after t.mid now how t.anew)

exchange_quiet : (settings : SettingsValue) (rule : Rule) (head : Head) (last : Bool)
    (old new : Standing) (result : Option Ended)
    → Exchanges settings rule head last old new result → SaysNeither old.line new.line
exchange_quiet settings rule head last old new result (inl x) =
    refuses_quiet x.err head last old.line new.line result x.refuses
exchange_quiet settings rule head last old new result (inr (inl x)) =
    record { closings = x.line.closings; quiets = x.line.quiets }
exchange_quiet settings rule head last old new result
    (inr (inr (sought, seeks, (moment, moments, draws, inl x)))) =
    record { closings = x.line.closings; quiets = x.line.quiets }
exchange_quiet settings rule head last old new result
    (inr (inr (sought, seeks, (moment, moments, draws, inr (inl x))))) =
    refuses_quiet _ head last old.line new.line result x.refuses
exchange_quiet settings rule head last old new result
    (inr (inr (sought, seeks, (moment, moments, draws, inr (inr x))))) =
    let s = x.sent in
    neither_on old.line s.between new.line
    (tries_quiet head s.onward sought.framing last x.to.addr old.line s.between old.kept new.kept
    old.upstream new.upstream s.how s.tries)
    (settles_quiet settings head last x.to.addr s.how s.held new.caller moments new.moments
    s.between new.line result s.settles)

pub request_quiet : (settings : SettingsValue) (rule : Rule) (head : Head) (last : Bool) (n : ℕ)
    (before behind : Option BudgetValue) (old new : Standing) (result : Option Ended)
    → Requests settings rule head last n before behind old new result
    → SaysNeither old.line new.line
request_quiet settings rule head last n before behind old new result request =
    let split = request_split settings rule head last n before behind old new result request in
    neither_on old.line split.0.line new.line (rests_quiet old.line split.0.line split.1.line)
    (exchange_quiet settings rule head last split.0 new result split.2)
