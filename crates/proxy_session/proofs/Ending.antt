-- How a session ends, and what it leaves as it was.
use Rattle.std.proofs.Common.{◌≡◌, ◌≢◌, ℕ, zero, suc, ◌+◌, ◌||◌, eqb, Bool, true, false, List, refl}
use Rattle.std.proofs.Common.{sym, subst, ap, ◌∙◌, inl, inr, Option, Some, None, Result, Ok, Err}
use Rattle.std.proofs.Common.{arith}
use Rattle.std.proofs.lemmas.Bool.Decides.{nat_tests}
use Rattle.http_wire.specs.declared.ended.Ended.{Ended}
use Rattle.http_wire.specs.declared.ended.Ended.TheVariants as ended
use Rattle.http_wire.specs.declared.head.Head.{Head}
use Rattle.http_wire.specs.declared.reading.HeadEnd.{HeadEnd}
use Rattle.identifier.specs.declared.rule.Rule.{Rule}
use Rattle.machine.specs.Values.{SettingsValue}
use Rattle.proxy_session.specs.Answering.{Writes, end_behind}
use Rattle.proxy_session.specs.Callers.{Caller}
use Rattle.proxy_session.specs.Causes.{CauseOf, IsNoFault, NoneFailed, NoneFell}
use Rattle.proxy_session.specs.Exchange.{Standing}
use Rattle.proxy_session.specs.Requests.{Requests}
use Rattle.retry_budget.specs.Budget.{BudgetValue}
use Rattle.line_base.specs.Counts.{raised}
use Rattle.line_base.specs.Dials.{Upstream}
use Rattle.line_base.specs.Lines.{Line, Rests}
use Rattle.http_wire.specs.Paused.{IfEnds, quiets_behind}
use Rattle.http_wire.specs.declared.paused.Paused.{Paused}
use Rattle.http_wire.specs.declared.paused.Paused.TheVariants as paused
use Rattle.proxy_session.specs.Session.{AnswersEnd, EndsWithout, HearsClosing, Reads, Served}
use Rattle.proxy_session.specs.Session.{Serves, Sessions, Spends, Stays, StaysTo, Stops, begun}
use Rattle.proxy_session.specs.Session.{ended_of_end, having_told, own_of_end}
use Rattle.proxy_session.proofs.Closings.{SaysNeither, rests_quiet, writes_quiet}
use Rattle.proxy_session.proofs.Draining.{drained_cause, is_spent, never_drained, serves_quiet}
use Rattle.proxy_session.proofs.Draining.{serves_rose, served_quiet, served_quiets}
use Rattle.proxy_session.proofs.Splitting.{request_cause, request_closed, request_fell}
use Rattle.proxy_session.proofs.Splitting.{request_pool, request_number}
use Rattle.replica_try.proofs.Resting.{rests_same}
use Rattle.proxy_session.proofs.Rising.{all_given, cause_on, ended_before, ended_behind}
use Rattle.proxy_session.proofs.Rising.{later_below, later_raised, later_same, none_fell_on}
use Rattle.proxy_session.proofs.Rising.{rests_fell, rose_before, rose_behind, rose_by}
use Rattle.proxy_session.proofs.Rising.{tells_given, tells_same, writes_fell}

-- what lasts from one moment of a session to a later one
pub record Lasts (old new : Standing) : Type 0 where
  pub fell : NoneFell old.line new.line
  pub closed : old.upstream.open_to ≡ None → new.upstream.open_to ≡ None
  pub pool : new.upstream.pool ≡ old.upstream.pool
  pub number : new.caller.number ≡ old.caller.number

lasts_same : (a : Standing) → Lasts a a
lasts_same a = record {
  fell = rests_fell a.line a.line (rests_same a.line);
  closed = λ is. is;
  pool = refl;
  number = refl;
}

lasts_on : (a b c : Standing) → Lasts a b → Lasts b c → Lasts a c
lasts_on a b c p q = record {
  fell = none_fell_on a.line b.line c.line p.fell q.fell;
  closed = λ is. q.closed (p.closed is);
  pool = q.pool ∙ p.pool;
  number = q.number ∙ p.number;
}

reads_last : (old new : Standing) (r : Result Head HeadEnd) → Reads old new r → Lasts old new
reads_last old new r x = record {
  fell = record {
    reads = later_below old.line.read_faults new.line.read_faults x.causes.faults_later;
    writes = later_same old.line.write_faults new.line.write_faults x.writes;
    ends = later_below old.line.ends new.line.ends x.causes.ends_later;
    closings = later_same old.line.closings new.line.closings x.closings;
    quiets = later_same old.line.quiets new.line.quiets x.quiets;
    tells = tells_given old.line.left new.line.left x.head.taken x.head.given;
  };
  closed = λ is. x.upstream.links.open_to ∙ is;
  pool = x.upstream.links.pool;
  number = ap (λ (c : Caller). c.number) x.caller;
}

told_last : (closing : Bool) (a : Standing) → Lasts a (having_told closing a)
told_last false a = record {
  fell = rests_fell a.line a.line (rests_same a.line);
  closed = λ is. is;
  pool = refl;
  number = refl;
}
told_last true a = record {
  fell = record {
    reads = later_same a.line.read_faults a.line.read_faults refl;
    writes = later_same a.line.write_faults a.line.write_faults refl;
    ends = later_same a.line.ends a.line.ends refl;
    closings = later_raised a.line.closings (raised a.line.closings) refl;
    quiets = later_same a.line.quiets a.line.quiets refl;
    tells = tells_same a.line.left;
  };
  closed = λ is. is;
  pool = refl;
  number = refl;
}

module _ (settings : SettingsValue) (rule : Rule) where
  request_lasts : (head : Head) (last : Bool) (n : ℕ) (before behind : Option BudgetValue)
      (old new : Standing) (r : Option Ended)
      → Requests settings rule head last n before behind old new r → Lasts old new
  request_lasts head last n before behind old new r x = record {
    fell = request_fell settings rule head last n before behind old new r x;
    closed = request_closed settings rule head last n before behind old new r x;
    pool = request_pool settings rule head last n before behind old new r x;
    number = request_number settings rule head last n before behind old new r x;
  }

  serves_last : (last : Bool) (n : ℕ) (before behind : Option BudgetValue) (old new : Standing)
      (r : Option Ended) → Serves settings rule last n before behind old new r → Lasts old new
  serves_last last n before behind old new r (closing, x) =
      lasts_on old x.mid new (reads_last old x.mid (Ok x.received) x.reads)
      (lasts_on x.mid (having_told closing x.mid) new (told_last closing x.mid)
      (request_lasts x.head (last || closing) n before behind (having_told closing x.mid) new x.end
      x.request))

  serves_cause : (last : Bool) (n : ℕ) (before behind : Option BudgetValue) (old new : Standing)
      (e : Ended) → Serves settings rule last n before behind old new (Some e)
      → CauseOf e old.line new.line
  serves_cause last n before behind old new e (true, x) =
      let to_told = lasts_on old x.mid (having_told true x.mid)
      (reads_last old x.mid (Ok x.received) x.reads) (told_last true x.mid) in
      drained_cause true x.end e old.line new.line
      (λ so. rose_by old.line.closings new.line.closings
      (serves_rose settings rule last n before behind old new (Some e) x))
      (cause_on old.line (having_told true x.mid).line new.line x.end to_told.fell
      (request_cause settings rule x.head (last || true) n before behind (having_told true x.mid)
      new x.end x.request))
      x.is
  serves_cause last n before behind old new e (false, x) =
      let to_told = lasts_on old x.mid (having_told false x.mid)
      (reads_last old x.mid (Ok x.received) x.reads) (told_last false x.mid) in
      drained_cause false x.end e old.line new.line (λ so. absurd (cc))
      (cause_on old.line (having_told false x.mid).line new.line x.end to_told.fell
      (request_cause settings rule x.head (last || false) n before behind (having_told false x.mid)
      new x.end x.request))
      x.is

  served_lasts : (from n retries : ℕ) (before behind : Option BudgetValue) (old new : Standing)
      (r : Option Ended) → Served settings rule from n retries before behind old new r
      → Lasts old new
  served_lasts from zero retries before behind old new r served =
      subst (Lasts old) (sym served.1) (lasts_same old)
  served_lasts from (suc n) retries before behind old new r
      (mid, between, earlier, more, served, next, all) =
      lasts_on old mid new (served_lasts from n earlier before between old mid None served)
      (serves_last _ more between behind mid new r next)

-- ---- the end

some_never : (e : Ended) → Some e ≡ None → ⊥
some_never e is = cc

some_same : {a b : Ended} → Some a ≡ Some b → a ≡ b
some_same is = cc

-- a cause stands where no count fell before it, and nothing moved behind it
cause_within : (e : Ended) (a b c d : Line) → NoneFell a b → Rests c d → CauseOf e b c
    → CauseOf e a d
cause_within ended.PeerEnded a b c d p q x = ended_before a c d (ended_behind a b c p x) q
cause_within ended.Cut a b c d p q x = ended_before a c d (ended_behind a b c p x) q
cause_within ended.ReadFault a b c d p q x =
    rose_before a.read_faults c.read_faults d.read_faults
    (rose_behind a.read_faults b.read_faults c.read_faults p.reads x) (rests_fell c d q).reads
cause_within ended.WriteFault a b c d p q x =
    rose_before a.write_faults c.write_faults d.write_faults
    (rose_behind a.write_faults b.write_faults c.write_faults p.writes x) (rests_fell c d q).writes
cause_within ended.Closed a b c d p q x = tt
cause_within ended.Spent a b c d p q x = tt
cause_within ended.Drained a b c d p q x =
    rose_before a.closings c.closings d.closings
    (rose_behind a.closings b.closings c.closings p.closings x) (rests_fell c d q).closings
cause_within ended.UpstreamCut a b c d p q x = tt
cause_within ended.OutOfMemory a b c d p q x = tt

-- an end with no head
abbrev Without : Ended → Line → Line → Line → Type 0
Without result old mid new =
    CauseOf result old new × NoneFell mid new × (result ≢ ended.Spent) × (result ≢ ended.Drained)
    × SaysNeither mid new

quietly : (quiet result : Ended) (old mid new : Line) → NoneFell old mid → Rests mid new → result
    ≡ quiet → CauseOf quiet old mid → quiet ≢ ended.Spent → quiet ≢ ended.Drained
    → Without result old mid new
quietly quiet result old mid new fell rests is cause other open_ =
    subst (λ (e : Ended). Without e old mid new) (sym is) (
      cause_within quiet old old mid new (rests_fell old old (rests_same old)) rests cause,
      rests_fell mid new rests,
      other,
      open_,
      rests_quiet mid new rests,
    )

refusing : (reply : List ℕ) (result : Ended) (old mid new : Line) → NoneFell old mid
    → (told : Result (Unit {0}) Ended) → Writes mid new reply told
    → Some result ≡ end_behind (Some ended.Closed) told → Without result old mid new
refusing reply result old mid new fell (Ok x) w is =
    subst (λ (e : Ended). Without e old mid new) (sym (some_same is)) (
      tt,
      writes_fell mid new reply (Ok x) w,
      λ no. cc,
      λ no. cc,
      writes_quiet mid new reply (Ok x) w,
    )
refusing reply result old mid new fell (Err ended.WriteFault) w is =
    subst (λ (e : Ended). Without e old mid new) (sym (some_same is)) (
      rose_behind old.write_faults mid.write_faults new.write_faults fell.writes
          (rose_by mid.write_faults new.write_faults w.3),
      writes_fell mid new reply
          (Err ended.WriteFault) w,
      λ no. cc,
      λ no. cc,
      writes_quiet mid new reply (Err ended.WriteFault) w,
    )
refusing reply result old mid new fell (Err ended.OutOfMemory) w is =
    subst (λ (e : Ended). Without e old mid new) (sym (some_same is))
    (tt, rests_fell mid new w, λ no. cc, λ no. cc, rests_quiet mid new w)
refusing reply result old mid new fell (Err ended.PeerEnded) w is = absurd w
refusing reply result old mid new fell (Err ended.Cut) w is = absurd w
refusing reply result old mid new fell (Err ended.Closed) w is = absurd w
refusing reply result old mid new fell (Err ended.Spent) w is = absurd w
refusing reply result old mid new fell (Err ended.Drained) w is = absurd w
refusing reply result old mid new fell (Err ended.ReadFault) w is = absurd w
refusing reply result old mid new fell (Err ended.UpstreamCut) w is = absurd w

ends_without : (end : HeadEnd) (old mid new : Standing) (result : Ended) → Reads old mid (Err end)
    → AnswersEnd (own_of_end end) mid.line new.line (ended_of_end end) result
    → Without result old.line mid.line new.line
ends_without HeadEnd.Ended old mid new result x a =
    quietly ended.PeerEnded result old.line mid.line new.line (reads_last old mid _ x).fell a.0 a.1
    (record {
      rose = rose_by old.line.ends mid.line.ends x.causes.ends;
      all = all_given old.line.left mid.line.left x.head.taken x.head.given x.head.end;
    }) (λ no. cc) (λ no. cc)
ends_without HeadEnd.Cut old mid new result x a =
    quietly ended.Cut result old.line mid.line new.line (reads_last old mid _ x).fell a.0 a.1
    (record {
      rose = rose_by old.line.ends mid.line.ends x.causes.ends;
      all = all_given old.line.left mid.line.left x.head.taken x.head.given x.head.end;
    }) (λ no. cc) (λ no. cc)
ends_without HeadEnd.ReadFault old mid new result x a =
    quietly ended.ReadFault result old.line mid.line new.line (reads_last old mid _ x).fell a.0 a.1
    (rose_by old.line.read_faults mid.line.read_faults x.causes.faults) (λ no. cc) (λ no. cc)
ends_without HeadEnd.OutOfMemory old mid new result x a =
    quietly ended.OutOfMemory result old.line mid.line new.line (reads_last old mid _ x).fell a.0
    a.1 tt (λ no. cc) (λ no. cc)
ends_without HeadEnd.Bad old mid new result x a =
    refusing _ result old.line mid.line new.line (reads_last old mid _ x).fell a.0 a.1 a.2
ends_without HeadEnd.Version old mid new result x a =
    refusing _ result old.line mid.line new.line (reads_last old mid _ x).fell a.0 a.1 a.2
ends_without HeadEnd.TooLarge old mid new result x a =
    refusing _ result old.line mid.line new.line (reads_last old mid _ x).fell a.0 a.1 a.2

without_lasts : (old new : Standing) (result : Ended) → EndsWithout old new result → Lasts old new
without_lasts old new result x =
    let w = ends_without x.end old x.mid new result x.reads x.answers in
    lasts_on old x.mid new (reads_last old x.mid (Err x.end) x.reads) (record {
      fell = w.1;
      closed = λ is. x.nothing.away.upstream.links.open_to ∙ is;
      pool = x.nothing.away.upstream.links.pool;
      number = ap (λ (c : Caller). c.number) x.nothing.caller;
    })

-- ---- the session

-- how a session ended, and what it left as it was
pub record Ending
    (old : Standing) (line : Line) (upstream : Upstream) (caller : Caller) (result : Ended)
    : Type 0 where
  pub cause : CauseOf result old.line line
  pub closed : old.upstream.open_to ≡ None → upstream.open_to ≡ None
  pub pool : upstream.pool ≡ old.upstream.pool
  pub number : caller.number ≡ old.caller.number

ending_by : (old mid new : Standing) (result : Ended) → Lasts old mid → Lasts mid new
    → CauseOf result mid.line new.line → Ending old new.line new.upstream new.caller result
ending_by old mid new result first second cause =
    let all = lasts_on old mid new first second in
    record {
      cause =
          cause_within result old.line mid.line new.line new.line first.fell (rests_same new.line)
          cause;
      closed = all.closed;
      pool = all.pool;
      number = all.number;
    }

told_rose : (old new : Standing) → new ≡ having_told true old → new.line.closings
    ≡ raised old.line.closings
told_rose old new is = ap (λ (s : Standing). s.line.closings) is

ending_of : (settings : SettingsValue) (rule : Rule) (from n retries : ℕ)
    (before behind : Option BudgetValue) (old new : Standing) (result : Ended)
    → Sessions settings rule from n retries before behind old new result
    → Ending old new.line new.upstream new.caller result
ending_of settings rule from n retries before behind old new result (inl (mid, served, inl x)) =
    ending_by old mid new result
    (served_lasts settings rule from n retries before behind old mid None served)
    (without_lasts mid new result x)
    (ends_without x.end mid x.mid new result x.reads x.answers).0
ending_of settings rule from n retries before behind old new result (inl (mid, served, inr x)) =
    ending_by old mid new result
    (served_lasts settings rule from n retries before behind old mid None served)
    (subst (Lasts mid) (sym x.closing) (told_last true mid))
    (subst (λ (e : Ended). CauseOf e mid.line new.line) (sym x.is)
    (rose_by mid.line.closings new.line.closings (told_rose mid new x.closing)))
ending_of settings rule from zero retries before behind old new result (inr served) =
    absurd (some_never result served.2)
ending_of settings rule from (suc n) retries before behind old new result
    (inr (mid, between, earlier, more, served, next, all)) =
    ending_by old mid new result
    (served_lasts settings rule from n earlier before between old mid None served)
    (serves_last settings rule _ more between behind mid new (Some result) next)
    (serves_cause settings rule _ more between behind mid new result next)

-- what a stay leaves as it was
pub record Keeping (old : Standing) (upstream : Upstream) (caller : Caller) : Type 0 where
  pub closed : old.upstream.open_to ≡ None → upstream.open_to ≡ None
  pub pool : upstream.pool ≡ old.upstream.pool
  pub number : caller.number ≡ old.caller.number

keeps_by : (settings : SettingsValue) (rule : Rule) (from n retries : ℕ)
    (before behind : Option BudgetValue) (old new : Standing) (result : Paused)
    → Stays settings rule from n retries before behind (begun old) new result
    → Keeping old new.upstream new.caller
keeps_by settings rule from n retries before behind old new paused.Quiet
    (mid, served, (kept, still)) =
    let l = served_lasts settings rule from n retries before behind (begun old) mid None served in
    let up = ap (λ (s : Standing). s.upstream) still in
    record {
      closed = λ is. ap (λ (u : Upstream). u.open_to) up ∙ l.closed is;
      pool = ap (λ (u : Upstream). u.pool) up ∙ l.pool;
      number = ap (λ (s : Standing). s.caller.number) still ∙ l.number;
    }
keeps_by settings rule from n retries before behind old new (paused.Ended end) sessions =
    let e = ending_of settings rule from n retries before behind (begun old) new end sessions in
    record { closed = e.closed; pool = e.pool; number = e.number }

pub stay_keeps : (settings : SettingsValue) (rule : Rule) (from upto : ℕ)
    (before behind : Option BudgetValue) (old new : Standing) (result : Paused)
    → StaysTo settings rule from upto before behind old new result
    → Keeping old new.upstream new.caller
stay_keeps settings rule from upto before behind old new result x =
    keeps_by settings rule from x.requests x.retries before behind old new result x.serves

-- why it ended, if it did
cause_by : (settings : SettingsValue) (rule : Rule) (from n retries : ℕ)
    (before behind : Option BudgetValue) (old new : Standing) (result : Paused)
    → Stays settings rule from n retries before behind (begun old) new result
    → IfEnds result (λ e. CauseOf e old.line new.line)
cause_by settings rule from n retries before behind old new paused.Quiet stays = tt
cause_by settings rule from n retries before behind old new (paused.Ended end) sessions =
    (ending_of settings rule from n retries before behind (begun old) new end sessions).cause

pub stay_cause : (settings : SettingsValue) (rule : Rule) (from upto : ℕ)
    (before behind : Option BudgetValue) (old new : Standing) (result : Paused)
    → StaysTo settings rule from upto before behind old new result
    → IfEnds result (λ e. CauseOf e old.line new.line)
stay_cause settings rule from upto before behind old new result x =
    cause_by settings rule from x.requests x.retries before behind old new result x.serves

all_of : (from n : ℕ) → eqb (from + n + 1) 10000 ≡ true → from + suc n ≡ 10000
all_of from n is = grind (arith, nat_tests)

spends_by : (settings : SettingsValue) (rule : Rule) (from n retries : ℕ)
    (before behind : Option BudgetValue) (old new : Standing) (result : Ended)
    → Sessions settings rule from n retries before behind (begun old) new result
    → result ≡ ended.Spent → Spends settings rule from before behind old new
spends_by settings rule from n retries before behind old new result (inl (mid, served, inl x)) is =
    absurd ((ends_without x.end mid x.mid new result x.reads x.answers).2 is)
spends_by settings rule from n retries before behind old new result (inl (mid, served, inr x)) is =
    let other : ended.Drained ≡ ended.Spent = sym x.is ∙ is in absurd (cc)
spends_by settings rule from zero retries before behind old new result (inr served) is =
    absurd (some_never result served.2)
spends_by settings rule from (suc n) retries before behind old new result
    (inr (mid, between, earlier, more, served, next, all)) is =
    let last : eqb (from + n + 1) 10000 ≡ true
    = is_spent settings rule (eqb (from + n + 1) 10000) more between behind mid new next.0 result is
    next.1 in (
      suc n,
      retries,
      all_of from n last,
      subst
          (λ (e : Ended). Served settings rule from (suc n) retries before behind (begun old) new
          (Some e)) is
          (mid, between, earlier, more, served, next, all),
    )

ends_same : {a b : Ended} → paused.Ended a ≡ paused.Ended b → a ≡ b
ends_same is = cc

quiet_not_ends : (e : Ended) → paused.Quiet ≡ paused.Ended e → ⊥
quiet_not_ends e is = cc

stay_spends : (settings : SettingsValue) (rule : Rule) (from n retries : ℕ)
    (before behind : Option BudgetValue) (old new : Standing) (result : Paused)
    → Stays settings rule from n retries before behind (begun old) new result
    → result ≡ paused.Ended ended.Spent → Spends settings rule from before behind old new
stay_spends settings rule from n retries before behind old new paused.Quiet stays is =
    absurd (quiet_not_ends ended.Spent is)
stay_spends settings rule from n retries before behind old new (paused.Ended end) sessions is =
    spends_by settings rule from n retries before behind old new end sessions (ends_same is)

pub stay_spent : (settings : SettingsValue) (rule : Rule) (from upto : ℕ)
    (before behind : Option BudgetValue) (old new : Standing) (result : Paused)
    → StaysTo settings rule from upto before behind old new result
    → result ≡ paused.Ended ended.Spent → Spends settings rule from before behind old new
stay_spent settings rule from upto before behind old new result x is =
    stay_spends settings rule from x.requests x.retries before behind old new result x.serves is

-- where no call failed, none is the end
no_fault : (result : Ended) (old new : Line) → CauseOf result old new → NoneFailed old new
    → IsNoFault result
no_fault ended.PeerEnded old new cause none = tt
no_fault ended.Cut old new cause none = tt
no_fault ended.Closed old new cause none = tt
no_fault ended.Spent old new cause none = tt
no_fault ended.Drained old new cause none = tt
no_fault ended.ReadFault old new cause none = none.reads cause
no_fault ended.WriteFault old new cause none = none.writes cause
no_fault ended.UpstreamCut old new cause none = tt
no_fault ended.OutOfMemory old new cause none = tt

pub stay_complete : (result : Paused) (old new : Line)
    → IfEnds result (λ e. CauseOf e old new) → NoneFailed old new → IfEnds result IsNoFault
stay_complete paused.Quiet old new cause none = tt
stay_complete (paused.Ended end) old new cause none = no_fault end old new cause none

-- ---- how a session heard that the listeners are closing

hears_by : (settings : SettingsValue) (rule : Rule) (from n retries : ℕ)
    (before behind : Option BudgetValue) (old new : Standing) (result : Ended)
    → Sessions settings rule from n retries before behind (begun old) new result
    → HearsClosing settings rule from before behind old new (paused.Ended result)
hears_by settings rule from n retries before behind old new result (inl (mid, served, inl x)) =
    let w = ends_without x.end mid x.mid new result x.reads x.answers in
    inl (
      w.4.closings
          ∙ (x.reads.closings
          ∙ (served_quiet settings rule from n retries before behind (begun old) mid
          served).closings),
      w.3,
    )
hears_by settings rule from n retries before behind old new result (inl (mid, served, inr x)) =
    let quiet =
    (served_quiet settings rule from n retries before behind (begun old) mid served).closings in
    inr (record {
      requests = n;
      retries = retries;
      more = 0;
      between = behind;
      mid = mid;
      served = served;
      quiet = quiet;
      rose = told_rose mid new x.closing ∙ ap raised quiet;
      ends = inl (x, record { none = refl; same = refl });
    })
hears_by settings rule from zero retries before behind old new result (inr served) =
    absurd (some_never result served.2)
hears_by settings rule from (suc n) retries before behind old new result
    (inr (mid, between, earlier, more, served, (false, x), all)) =
    inl (
      (serves_quiet settings rule _ more between behind mid new false (Some result) refl
          x).closings
          ∙ (served_quiet settings rule from n earlier before between (begun old) mid
          served).closings,
      never_drained settings rule _ more between behind mid new result x,
    )
hears_by settings rule from (suc n) retries before behind old new result
    (inr (mid, between, earlier, more, served, (true, x), all)) =
    let quiet =
    (served_quiet settings rule from n earlier before between (begun old) mid served).closings in
    inr (record {
      requests = n;
      retries = earlier;
      more = more;
      between = between;
      mid = mid;
      served = served;
      quiet = quiet;
      rose =
          serves_rose settings rule _ more between behind mid new (Some result) x
          ∙ ap raised quiet;
      ends = inr x;
    })

stay_hears_by : (settings : SettingsValue) (rule : Rule) (from n retries : ℕ)
    (before behind : Option BudgetValue) (old new : Standing) (result : Paused)
    → Stays settings rule from n retries before behind (begun old) new result
    → HearsClosing settings rule from before behind old new result
stay_hears_by settings rule from n retries before behind old new paused.Quiet
    (mid, served, (kept, still)) =
    ap (λ (s : Standing). s.line.closings) still
    ∙ (served_quiet settings rule from n retries before behind (begun old) mid served).closings
stay_hears_by settings rule from n retries before behind old new (paused.Ended end) sessions =
    hears_by settings rule from n retries before behind old new end sessions

pub stay_hears : (settings : SettingsValue) (rule : Rule) (from upto : ℕ)
    (before behind : Option BudgetValue) (old new : Standing) (result : Paused)
    → StaysTo settings rule from upto before behind old new result
    → HearsClosing settings rule from before behind old new result
stay_hears settings rule from upto before behind old new result x =
    stay_hears_by settings rule from x.requests x.retries before behind old new result x.serves

-- ---- how often a session said that nothing came for a while

stops_quiets : (mid new : Standing) (result : Ended) → Stops mid new result
    → new.line.quiets ≡ mid.line.quiets
stops_quiets mid new result (inl x) =
    (ends_without x.end mid x.mid new result x.reads x.answers).4.quiets ∙ x.reads.quiets
stops_quiets mid new result (inr x) = ap (λ (s : Standing). s.line.quiets) x.closing

stay_waits_by : (settings : SettingsValue) (rule : Rule) (from n retries : ℕ)
    (before behind : Option BudgetValue) (old new : Standing) (result : Paused)
    → Stays settings rule from n retries before behind (begun old) new result
    → new.line.quiets ≡ quiets_behind (Some result) old.line.quiets
stay_waits_by settings rule from n retries before behind old new paused.Quiet
    (mid, served, (kept, still)) =
    ap (λ (s : Standing). s.line.quiets) still
    ∙ ap raised
    (served_quiets settings rule from n retries before behind (begun old) mid None served)
stay_waits_by settings rule from n retries before behind old new (paused.Ended end)
    (inl (mid, served, stops)) =
    stops_quiets mid new end stops
    ∙ served_quiets settings rule from n retries before behind (begun old) mid None served
stay_waits_by settings rule from n retries before behind old new (paused.Ended end)
    (inr served) =
    served_quiets settings rule from n retries before behind (begun old) new (Some end) served

pub stay_waits : (settings : SettingsValue) (rule : Rule) (from upto : ℕ)
    (before behind : Option BudgetValue) (old new : Standing) (result : Paused)
    → StaysTo settings rule from upto before behind old new result
    → new.line.quiets ≡ quiets_behind (Some result) old.line.quiets
stay_waits settings rule from upto before behind old new result x =
    stay_waits_by settings rule from x.requests x.retries before behind old new result x.serves
