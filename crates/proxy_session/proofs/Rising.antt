-- Which counts rise in an exchange and in a session.
use Rattle.std.proofs.Common.{◌≡◌, ℕ, ◌≤◌, Bool, true, false, List, refl, sym, subst, inl, inr}
use Rattle.std.proofs.Common.{Option, Some, None, Result, Ok, Err, arith, [], ap, ◌∙◌}
use Rattle.std.specs.Io.KnownBytes.{Consumes, IsAtEnd, Keeps}
use Rattle.std.specs.List.{concat}
use Rattle.line_base.specs.Counts.{Rose, raised}
use Rattle.addr_book.specs.declared.addr.Addr.{Addr}
use Rattle.body_wire.specs.declared.end.BodyEnd.{BodyEnd}
use Rattle.body_wire.specs.declared.end.BodyEnd.TheVariants.{BadChunk, Cut, TooLong, ReadFault}
use Rattle.body_wire.specs.declared.end.BodyEnd.TheVariants.{WriteFault, SendFault, RecvFault}
use Rattle.body_wire.specs.declared.end.BodyEnd.TheVariants.{OutOfMemory}
use Rattle.body_wire.specs.Passing.{CountsEnd, RaisedAt, is_at_end}
use Rattle.http_wire.specs.declared.ended.Ended.{Ended}
use Rattle.http_wire.specs.declared.ended.Ended.TheVariants as ended
use Rattle.http_wire.specs.declared.frames.Framing.{Framing}
use Rattle.http_wire.specs.declared.head.Head.{Head}
use Rattle.http_wire.specs.declared.head.ReplyHead.{ReplyHead}
use Rattle.identifier.specs.declared.rule.Rule.{Rule}
use Rattle.machine.specs.Values.{SettingsValue}
use Rattle.own_reply.specs.declared.error.OwnError.{OwnError}
use Rattle.replica_try.specs.declared.final_head.HeadFault.{HeadFault}
use Rattle.replica_try.specs.declared.moved.Moved.{Moved}
use Rattle.replica_try.specs.declared.tried.Tried.{Tried}
use Rattle.replica_try.specs.declared.tried.Tried.TheVariants as tried
use Rattle.own_reply.specs.Closing.{end_of}
use Rattle.proxy_session.specs.Answering.{Ends, Refuses, Writes, end_behind}
use Rattle.proxy_session.specs.Callers.{Caller}
use Rattle.proxy_session.specs.Causes.{HasCauseOf, HasEnded, HasGivenAll, Later, NoneFell}
use Rattle.proxy_session.specs.Causes.{TellsStill}
use Rattle.proxy_session.specs.Exchange.{Exchanges, Settles, Standing}
use Rattle.line_base.specs.Dials.{Upstream}
use Rattle.line_base.specs.Lines.{Line, Rests}
use Rattle.replica_try.specs.Trying.{Backs, Converses, GoesBack, GoesOn, Replies, Tries}
use Rattle.replica_try.specs.Trying.{TriesAnew}
use Rattle.replica_try.specs.Trying.{tried_of_back, tried_of_body, tried_of_head}

pub later_same : (a b : ℕ) → b ≡ a → Later a b
later_same a b is = omega arith

pub later_below : (a b : ℕ) → a ≤ b → Later a b
later_below a b le = omega arith

pub later_raised : (a b : ℕ) → b ≡ raised a → Later a b
later_raised a b is = omega arith

later_on : (a b c : ℕ) → Later a b → Later b c → Later a c
later_on a b c p q = omega arith

pub rose_by : (a b : ℕ) → b ≡ raised a → Rose a b
rose_by a b is = omega arith

pub rose_before : (a b c : ℕ) → Rose a b → Later b c → Rose a c
rose_before a b c p q = omega arith

pub rose_behind : (a b c : ℕ) → Later a b → Rose b c → Rose a c
rose_behind a b c p q = omega arith

-- ---- the client's bytes

pub tells_same : (a : Option (List ℕ)) → TellsStill a a
tells_same None = tt
tells_same (Some x) = tt

tells_on : (a b c : Option (List ℕ)) → TellsStill a b → TellsStill b c → TellsStill a c
tells_on None b c p q = tt
tells_on (Some x) None c p q = absurd p
tells_on (Some x) (Some y) None p q = absurd q
tells_on (Some x) (Some y) (Some z) p q = tt

tells_kept : (a b : Option (List ℕ)) → Keeps a b → TellsStill a b
tells_kept None b k = tt
tells_kept (Some x) None k = absurd k
tells_kept (Some x) (Some y) k = tt

pub tells_given : (a b : Option (List ℕ)) (bytes : List ℕ) → Consumes a b bytes → TellsStill a b
tells_given None b bytes c = tt
tells_given (Some x) None bytes c = absurd c
tells_given (Some x) (Some y) bytes c = tt

-- a client that gave some of its bytes, and has none left, has given them all
pub all_given : (a b : Option (List ℕ)) (bytes : List ℕ) → Consumes a b bytes → IsAtEnd b
    → HasGivenAll a b
all_given None b bytes c none = tt
all_given (Some x) None bytes c none = absurd c
all_given (Some x) (Some y) bytes c none = ap Some none

all_behind : (a b c : Option (List ℕ)) → TellsStill a b → HasGivenAll b c → HasGivenAll a c
all_behind None b c tells all = tt
all_behind (Some x) None c tells all = absurd tells
all_behind (Some x) (Some y) c tells all = all

none_kept : (b c : Option (List ℕ)) → b ≡ Some [] → Keeps b c → c ≡ Some []
none_kept None c is k = absurd (cc)
none_kept (Some y) None is k = absurd k
none_kept (Some y) (Some z) is k = let none : y ≡ [] = cc in ap Some (k ∙ none)

all_kept : (a b c : Option (List ℕ)) → HasGivenAll a b → Keeps b c → HasGivenAll a c
all_kept None b c all k = tt
all_kept (Some x) b c all k = none_kept b c all k

pub none_fell_on : (a b c : Line) → NoneFell a b → NoneFell b c → NoneFell a c
none_fell_on a b c p q = record {
  reads = later_on a.read_faults b.read_faults c.read_faults p.reads q.reads;
  writes = later_on a.write_faults b.write_faults c.write_faults p.writes q.writes;
  ends = later_on a.ends b.ends c.ends p.ends q.ends;
  closings = later_on a.closings b.closings c.closings p.closings q.closings;
  quiets = later_on a.quiets b.quiets c.quiets p.quiets q.quiets;
  tells = tells_on a.left b.left c.left p.tells q.tells;
}

pub rests_fell : (a b : Line) → Rests a b → NoneFell a b
rests_fell a b r = record {
  reads = later_same _ _ r.read_faults;
  writes = later_same _ _ r.write_faults;
  ends = later_same _ _ r.ends;
  closings = later_same _ _ r.closings;
  quiets = later_same _ _ r.quiets;
  tells = tells_kept a.left b.left r.left;
}

-- a read gave the end, behind what was before it, and before what left the connection as it was
pub ended_behind : (a b c : Line) → NoneFell a b → HasEnded b c → HasEnded a c
ended_behind a b c fell x = record {
  rose = rose_behind a.ends b.ends c.ends fell.ends x.rose;
  all = all_behind a.left b.left c.left fell.tells x.all;
}

pub ended_before : (a b c : Line) → HasEnded a b → Rests b c → HasEnded a c
ended_before a b c x rests = record {
  rose = rose_before a.ends b.ends c.ends x.rose (later_same b.ends c.ends rests.ends);
  all = all_kept a.left b.left c.left x.all rests.left;
}

-- ---- bodies

-- a count that rises at one end of a call
raised_reads : (a b : ℕ) (r : Result ℕ BodyEnd) → RaisedAt (Err ReadFault) a b r → Later a b
raised_reads a b (Ok n) x = later_same a b (x.others (λ is. cc))
raised_reads a b (Err (BadChunk n)) x = later_same a b (x.others (λ is. cc))
raised_reads a b (Err Cut) x = later_same a b (x.others (λ is. cc))
raised_reads a b (Err TooLong) x = later_same a b (x.others (λ is. cc))
raised_reads a b (Err ReadFault) x = later_raised a b (x.here refl)
raised_reads a b (Err WriteFault) x = later_same a b (x.others (λ is. cc))
raised_reads a b (Err SendFault) x = later_same a b (x.others (λ is. cc))
raised_reads a b (Err RecvFault) x = later_same a b (x.others (λ is. cc))
raised_reads a b (Err OutOfMemory) x = later_same a b (x.others (λ is. cc))

raised_writes : (a b : ℕ) (r : Result ℕ BodyEnd) → RaisedAt (Err WriteFault) a b r → Later a b
raised_writes a b (Ok n) x = later_same a b (x.others (λ is. cc))
raised_writes a b (Err (BadChunk n)) x = later_same a b (x.others (λ is. cc))
raised_writes a b (Err Cut) x = later_same a b (x.others (λ is. cc))
raised_writes a b (Err TooLong) x = later_same a b (x.others (λ is. cc))
raised_writes a b (Err ReadFault) x = later_same a b (x.others (λ is. cc))
raised_writes a b (Err WriteFault) x = later_raised a b (x.here refl)
raised_writes a b (Err SendFault) x = later_same a b (x.others (λ is. cc))
raised_writes a b (Err RecvFault) x = later_same a b (x.others (λ is. cc))
raised_writes a b (Err OutOfMemory) x = later_same a b (x.others (λ is. cc))

counts_end : (t : Bool) (framing : Framing) (a b : ℕ) (r : Result ℕ BodyEnd) → is_at_end framing r
    ≡ t → CountsEnd framing a b r → Later a b
counts_end true framing a b r at x = later_raised a b (x.ended at)
counts_end false framing a b r at x = later_same a b (x.others at)

module _ (head : List ℕ) (framing : Framing) (old new : Line) (kept kept_after : List ℕ) (f0 f1 : ℕ)
  where
    on_fell : (sent : List ℕ) (r : Result ℕ BodyEnd)
        → GoesOn head framing old new kept kept_after f0 f1 sent r → NoneFell old new
    on_fell sent r x = record {
      reads = raised_reads old.read_faults new.read_faults r x.reads;
      writes = later_same old.write_faults new.write_faults x.writes;
      ends = counts_end (is_at_end framing r) framing old.ends new.ends r refl x.ends;
      closings = later_same old.closings new.closings x.closings;
      quiets = later_same old.quiets new.quiets x.quiets;
      tells = tells_given old.left new.left (concat x.came) x.taken;
    }

    back_fell : (chunked : Bool) (got : List (List ℕ)) (r : Result ℕ BodyEnd)
        → GoesBack head framing chunked old new kept kept_after f0 f1 got r → NoneFell old new
    back_fell chunked got r x = record {
      reads = later_same old.read_faults new.read_faults x.reads;
      writes = raised_writes old.write_faults new.write_faults r x.writes;
      ends = later_same old.ends new.ends x.ends;
      closings = later_same old.closings new.closings x.closings;
      quiets = later_same old.quiets new.quiets x.quiets;
      tells = tells_kept old.left new.left x.left;
    }

-- ---- tries

-- why a try went so: which count rose
abbrev WayCause : Tried → Line → Line → Type 0
WayCause (tried.BodyCut moved) old new = HasEnded old new
WayCause (tried.BodyFault moved) old new = Rose old.read_faults new.read_faults
WayCause (tried.WrittenShort moved status) old new = Rose old.write_faults new.write_faults
WayCause tried.NotDialed old new = Unit {0}
WayCause (tried.NotSent moved) old new = Unit {0}
WayCause (tried.BadBody moved) old new = Unit {0}
WayCause (tried.LongBody moved) old new = Unit {0}
WayCause (tried.Silent moved) old new = Unit {0}
WayCause (tried.NoReply moved) old new = Unit {0}
WayCause (tried.ReplyCut moved status) old new = Unit {0}
WayCause (tried.OutOfMemory moved status) old new = Unit {0}
WayCause (tried.Whole moved status closes reusable) old new = Unit {0}

body_cause : (head : List ℕ) (framing : Framing) (old new : Line) (kept kept_after : List ℕ)
    (f0 f1 : ℕ) (sent : List ℕ) (e : BodyEnd)
    → (count : ℕ) → GoesOn head framing old new kept kept_after f0 f1 sent (Err e)
    → WayCause (tried_of_body count e) old new
body_cause head framing old new kept kept_after f0 f1 sent (BadChunk n) count x = tt
body_cause head framing old new kept kept_after f0 f1 sent Cut count x = record {
  rose = rose_by _ _ (x.ends.ended refl);
  all = all_given old.left new.left (concat x.came) x.taken (x.none_left refl);
}
body_cause head framing old new kept kept_after f0 f1 sent TooLong count x = tt
body_cause head framing old new kept kept_after f0 f1 sent ReadFault count x =
    rose_by _ _ (x.reads.here refl)
body_cause head framing old new kept kept_after f0 f1 sent WriteFault count x = tt
body_cause head framing old new kept kept_after f0 f1 sent SendFault count x = tt
body_cause head framing old new kept kept_after f0 f1 sent RecvFault count x = tt
body_cause head framing old new kept kept_after f0 f1 sent OutOfMemory count x = tt

back_cause : (moved : Moved) (status : ℕ) (closes reusable : Bool) (old new : Line)
    (r : Result ℕ BodyEnd)
    → RaisedAt (Err WriteFault) old.write_faults new.write_faults r
    → WayCause (tried_of_back moved status closes reusable r) old new
back_cause moved status closes reusable old new (Ok n) x = tt
back_cause moved status closes reusable old new (Err (BadChunk n)) x = tt
back_cause moved status closes reusable old new (Err Cut) x = tt
back_cause moved status closes reusable old new (Err TooLong) x = tt
back_cause moved status closes reusable old new (Err ReadFault) x = tt
back_cause moved status closes reusable old new (Err WriteFault) x = rose_by _ _ (x.here refl)
back_cause moved status closes reusable old new (Err SendFault) x = tt
back_cause moved status closes reusable old new (Err RecvFault) x = tt
back_cause moved status closes reusable old new (Err OutOfMemory) x = tt

head_cause : (n : ℕ) (fault : HeadFault) (old new : Line)
    → WayCause (tried_of_head n fault) old new
head_cause n HeadFault.Silent old new = tt
head_cause n HeadFault.NoReply old new = tt
head_cause n HeadFault.OutOfMemory old new = tt

abbrev Went : Tried → Line → Line → Type 0
Went how old new = NoneFell old new × WayCause how old new

cause_behind : (how : Tried) (a b c : Line) → NoneFell a b → WayCause how b c → WayCause how a c
cause_behind (tried.BodyCut moved) a b c fell cause = ended_behind a b c fell cause
cause_behind (tried.BodyFault moved) a b c fell cause =
    rose_behind a.read_faults b.read_faults c.read_faults fell.reads cause
cause_behind (tried.WrittenShort moved status) a b c fell cause =
    rose_behind a.write_faults b.write_faults c.write_faults fell.writes cause
cause_behind tried.NotDialed a b c fell cause = tt
cause_behind (tried.NotSent moved) a b c fell cause = tt
cause_behind (tried.BadBody moved) a b c fell cause = tt
cause_behind (tried.LongBody moved) a b c fell cause = tt
cause_behind (tried.Silent moved) a b c fell cause = tt
cause_behind (tried.NoReply moved) a b c fell cause = tt
cause_behind (tried.ReplyCut moved status) a b c fell cause = tt
cause_behind (tried.OutOfMemory moved status) a b c fell cause = tt
cause_behind (tried.Whole moved status closes reusable) a b c fell cause = tt

backs_went : (head : Head) (last : Bool) (n : ℕ) (reply : ReplyHead) (framing : Framing)
    (old new : Line) (kept : List ℕ) (f0 f1 : ℕ) (got : List (List ℕ)) (how : Tried)
    → Backs head last n reply framing old new kept f0 f1 got how → Went how old new
backs_went head last n reply framing old new kept f0 f1 got how (inl none) =
    (rests_fell old new none.0, subst (λ (h : Tried). WayCause h old new) (sym none.3) tt)
backs_went head last n reply framing old new kept f0 f1 got how (inr (kept_after, r, back, is)) = (
  back_fell _ _ old new _ _ _ _ _ _ r back,
  subst (λ (h : Tried). WayCause h old new) (sym is)
      (back_cause (record { sent = n; given = back.count }) reply.status _ _ old new r back.writes),
)

replies_went : (head : Head) (last : Bool) (n : ℕ) (old new : Line) (f0 f1 : ℕ)
    (got : List (List ℕ)) (how : Tried) → Replies head last n old new f0 f1 got how
    → Went how old new
replies_went head last n old new f0 f1 got how (inl (fault, kept, hears, rests, is)) = (
  rests_fell old new rests,
  subst (λ (h : Tried). WayCause h old new) (sym is)
      (head_cause n fault old new),
)
replies_went head last n old new f0 f1 got how (inr (
  reply,
  framing,
  kept,
  between,
  before,
  behind,
  hears,
  backs,
  is,
)) =
    backs_went head last n reply framing old new kept between f1 behind how backs

converses_went : (head : Head) (onward : List ℕ) (framing : Framing) (last : Bool) (old new : Line)
    (kept kept_after : List ℕ) (f0 f1 : ℕ) (sent : List ℕ) (got : List (List ℕ)) (how : Tried)
    → Converses head onward framing last old new kept kept_after f0 f1 sent got how
    → Went how old new
converses_went head onward framing last old new kept kept_after f0 f1 sent got how
    (inl (end, goes, none, is)) = (
      on_fell _ _ old new _ _ _ _ _ _ goes,
      subst (λ (h : Tried). WayCause h old new) (sym is)
          (body_cause onward framing old new kept kept_after f0 f1 sent end goes.count goes),
    )
converses_went head onward framing last old new kept kept_after f0 f1 sent got how
    (inr (n, mid, between, goes, replies)) =
    let first = on_fell onward framing old mid kept kept_after f0 between sent (Ok n) goes in
    let then' = replies_went head last n mid new between f1 got how replies in
    (none_fell_on old mid new first then'.0, cause_behind how old mid new first then'.1)

anew_went : (head : Head) (onward : List ℕ) (framing : Framing) (last : Bool) (addr : Addr)
    (old new : Line) (kept kept_after : List ℕ) (before now : Upstream) (how : Tried)
    → TriesAnew head onward framing last addr old new kept kept_after before now how
    → Went how old new
anew_went head onward framing last addr old new kept kept_after before now how (inl none) =
    (rests_fell old new none.line, subst (λ (h : Tried). WayCause h old new) (sym none.how_is) tt)
anew_went head onward framing last addr old new kept kept_after before now how (inr visit) =
    converses_went head onward framing last old new kept kept_after before.faults now.faults _
    visit.got how visit.spoke

tries_went : (head : Head) (onward : List ℕ) (framing : Framing) (last : Bool) (addr : Addr)
    (old new : Line) (kept kept_after : List ℕ) (before now : Upstream) (how : Tried)
    → Tries head onward framing last addr old new kept kept_after before now how → Went how old new
tries_went head onward framing last addr old new kept kept_after before now how (inl anew) =
    anew_went head onward framing last addr old new kept kept_after before now how anew
tries_went head onward framing last addr old new kept kept_after before now how
    (inr (any, again, inl answered)) =
    converses_went head onward framing last old new kept kept_after before.faults now.faults _
    answered.visit.got how answered.visit.spoke
tries_went head onward framing last addr old new kept kept_after before now how
    (inr (any, again, inr t)) =
    let first = converses_went head onward framing last old t.line kept t.left before.faults
    t.mid.faults _ t.visit.got t.first t.visit.spoke in
    let second = anew_went head onward framing last addr t.line new t.left kept_after t.mid now how
    t.anew in
    (none_fell_on old t.line new first.0 second.0, cause_behind how old t.line new first.0 second.1)

-- ---- answers

abbrev Done : Option Ended → Line → Line → Type 0
Done result old new = NoneFell old new × HasCauseOf result old new

done_of : (closes last : Bool) (old new : Line) → HasCauseOf (end_of closes last) old new
done_of true last old new = tt
done_of false true old new = tt
done_of false false old new = tt

writes_done : (old new : Line) (reply : List ℕ) (closes last : Bool)
    (told : Result (Unit {0}) Ended) → Writes old new reply told
    → Done (end_behind (end_of closes last) told) old new
writes_done old new reply closes last (Ok x) w = (
  record {
    reads = later_same _ _ w.0.read_faults;
    writes = later_same _ _ w.1;
    ends = later_same _ _ w.0.ends;
    closings = later_same _ _ w.0.closings;
    quiets = later_same _ _ w.0.quiets;
    tells = tells_kept old.left new.left w.0.left;
  },
  done_of closes last old new,
)
writes_done old new reply closes last (Err ended.WriteFault) w = (
  record {
    reads = later_same _ _ w.1.read_faults;
    writes = later_raised _ _ w.3;
    ends = later_same _ _ w.1.ends;
    closings = later_same _ _ w.1.closings;
    quiets = later_same _ _ w.1.quiets;
    tells = tells_kept old.left new.left w.1.left;
  },
  rose_by _ _ w.3,
)
writes_done old new reply closes last (Err ended.OutOfMemory) w = (rests_fell old new w, tt)
writes_done old new reply closes last (Err ended.PeerEnded) w = absurd w
writes_done old new reply closes last (Err ended.Cut) w = absurd w
writes_done old new reply closes last (Err ended.Closed) w = absurd w
writes_done old new reply closes last (Err ended.Spent) w = absurd w
writes_done old new reply closes last (Err ended.Drained) w = absurd w
writes_done old new reply closes last (Err ended.ReadFault) w = absurd w
writes_done old new reply closes last (Err ended.UpstreamCut) w = absurd w

pub writes_fell : (old new : Line) (reply : List ℕ) (told : Result (Unit {0}) Ended)
    → Writes old new reply told → NoneFell old new
writes_fell old new reply told w = (writes_done old new reply true true told w).0

refuses_done : (err : OwnError) (head : Head) (last : Bool) (old new : Line) (r : Option Ended)
    → Refuses err head last old new r → Done r old new
refuses_done err head last old new r x =
    subst (λ (o : Option Ended). Done o old new) (sym x.2) (writes_done old new _ _ last x.0 x.1)

rests_done : (e : Option Ended) (old new : Line) (r : Option Ended) → Rests old new → r ≡ e
    → HasCauseOf e old new → Done r old new
rests_done e old new r rests is cause =
    subst (λ (o : Option Ended). Done o old new) (sym is) (rests_fell old new rests, cause)

behind_try : (a b c : Line) (e : Option Ended) (r : Option Ended) → NoneFell a b → Rests b c → r ≡ e
    → HasCauseOf e a c → Done r a c
behind_try a b c e r fell rests is cause =
    subst (λ (o : Option Ended). Done o a c) (sym is) (
      none_fell_on a b c fell
          (rests_fell b c rests),
      cause,
    )

pub cause_on : (a b c : Line) (r : Option Ended) → NoneFell a b → HasCauseOf r b c
    → HasCauseOf r a c
cause_on a b c None fell cause = tt
cause_on a b c (Some ended.PeerEnded) fell cause = cause
cause_on a b c (Some ended.Cut) fell cause = ended_behind a b c fell cause
cause_on a b c (Some ended.ReadFault) fell cause =
    rose_behind a.read_faults b.read_faults c.read_faults fell.reads cause
cause_on a b c (Some ended.WriteFault) fell cause =
    rose_behind a.write_faults b.write_faults c.write_faults fell.writes cause
cause_on a b c (Some ended.Closed) fell cause = tt
cause_on a b c (Some ended.Spent) fell cause = tt
cause_on a b c (Some ended.Drained) fell cause = cause
cause_on a b c (Some ended.UpstreamCut) fell cause = tt
cause_on a b c (Some ended.OutOfMemory) fell cause = tt

done_on : (a b c : Line) (r : Option Ended) → NoneFell a b → Done r b c → Done r a c
done_on a b c r fell done = (none_fell_on a b c fell done.0, cause_on a b c r fell done.1)

ends_done : (how : Tried) (head : Head) (last : Bool) (a b c : Line) (r : Option Ended)
    → Went how a b → Ends how head last b c r → Done r a c
ends_done tried.NotDialed head last a b c r went ends =
    done_on a b c r went.0 (refuses_done _ head last b c r ends)
ends_done (tried.NotSent moved) head last a b c r went ends =
    done_on a b c r went.0 (refuses_done _ head last b c r ends)
ends_done (tried.Silent moved) head last a b c r went ends =
    done_on a b c r went.0 (refuses_done _ head last b c r ends)
ends_done (tried.NoReply moved) head last a b c r went ends =
    done_on a b c r went.0 (refuses_done _ head last b c r ends)
ends_done (tried.BadBody moved) head last a b c r went ends =
    done_on a b c r went.0 (refuses_done _ head last b c r ends)
ends_done (tried.LongBody moved) head last a b c r went ends =
    done_on a b c r went.0 (refuses_done _ head last b c r ends)
ends_done (tried.BodyCut moved) head last a b c r went ends =
    behind_try a b c _ r went.0 ends.0 ends.1 (ended_before a b c went.1 ends.0)
ends_done (tried.BodyFault moved) head last a b c r went ends =
    behind_try a b c _ r went.0 ends.0 ends.1 (rose_before a.read_faults b.read_faults c.read_faults
    went.1 (later_same b.read_faults c.read_faults ends.0.read_faults))
ends_done (tried.WrittenShort moved status) head last a b c r went ends =
    behind_try a b c _ r went.0 ends.0 ends.1 (rose_before a.write_faults b.write_faults
    c.write_faults went.1 (later_same b.write_faults c.write_faults ends.0.write_faults))
ends_done (tried.ReplyCut moved status) head last a b c r went ends =
    behind_try a b c _ r went.0 ends.0 ends.1 tt
ends_done (tried.OutOfMemory moved status) head last a b c r went ends =
    behind_try a b c _ r went.0 ends.0 ends.1 tt
ends_done (tried.Whole moved status closes reusable) head last a b c r went ends =
    behind_try a b c _ r went.0 ends.0 ends.1 (done_of closes last a c)

settles_done : (settings : SettingsValue) (head : Head) (last : Bool) (addr : Addr) (how : Tried)
    (old new : Caller) (m n : Option (List ℕ)) (a b c : Line) (r : Option Ended) → Went how a b
    → Settles settings head last addr how old new m n b c r → Done r a c
settles_done settings head last addr how old new m n a b c r went (inl done) =
    ends_done how head last a b c r went done.1
settles_done settings head last addr how old new m n a b c r went (inr fails) =
    behind_try a b c _ r went.0 fails.1 fails.2 tt

-- each end of an exchange has its cause
pub exchange_done : (settings : SettingsValue) (rule : Rule) (head : Head) (last : Bool)
    (old new : Standing) (r : Option Ended) → Exchanges settings rule head last old new r
    → Done r old.line new.line
exchange_done settings rule head last old new r (inl x) =
    refuses_done x.err head last old.line new.line r x.refuses
exchange_done settings rule head last old new r (inr (inl x)) =
    rests_done _ old.line new.line r x.line x.ends tt
exchange_done settings rule head last old new r
    (inr (inr (sought, seeks, (moment, moments, draws, inl x)))) =
    rests_done _ old.line new.line r x.line x.ends tt
exchange_done settings rule head last old new r
    (inr (inr (sought, seeks, (moment, moments, draws, inr (inl x))))) =
    refuses_done _ head last old.line new.line r x.refuses
exchange_done settings rule head last old new r (inr (inr
    (sought, seeks, (moment, moments, draws, inr (inr x))))) =
    let s = x.sent in
    settles_done settings head last x.to.addr s.how s.held new.caller moments new.moments old.line
    s.between new.line r
    (tries_went head s.onward sought.framing last x.to.addr old.line s.between old.kept new.kept
    old.upstream new.upstream s.how s.tries) s.settles
