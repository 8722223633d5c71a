-- How the turns of a connection add up.
use Rattle.std.proofs.Common.{◌≡◌, ◌<◌, ℕ, ◌+◌, ◌||◌, Bool, true, false, List, [], ◌++◌, eqb}
use Rattle.std.proofs.Common.{refl, sym, subst, ap, ◌∙◌, arith, append_assoc, append-nil, Option}
use Rattle.std.proofs.Common.{Some, None, Err, inl, inr}
use Rattle.std.proofs.lemmas.Bool.Decides.{nat_tests}
use Rattle.std.specs.Io.KnownBytes.{Appends, Keeps}
use Rattle.std.proofs.KnownBytes.{Appends-trans}
use Rattle.line_base.specs.Counts.{raised}
use Rattle.http_wire.specs.declared.ended.Ended.{Ended}
use Rattle.http_wire.specs.declared.ended.Ended.TheVariants as ended
use Rattle.http_wire.specs.declared.head.Head.{Head}
use Rattle.own_reply.specs.declared.error.OwnError.{OwnError}
use Rattle.router.specs.declared.naming.Naming.{Ghosts}
use Rattle.api_wire.specs.declared.reply.ApiReply.{ApiReply}
use Rattle.api_sessions.specs.Answering.{IsTaken}
use Rattle.own_reply.specs.Closing.{asks_to_close, end_of}
use Rattle.api_sessions.specs.declared.request.NoRequest.{NoRequest}
use Rattle.api_sessions.specs.declared.request.NoRequest.TheVariants.{Ends, Own, Waits}
use Rattle.api_sessions.specs.declared.which.Which.{Which}
use Rattle.api_sessions.specs.Answering.{Sources}
use Rattle.api_sessions.specs.Reading.{HasReadCauses, IsRefusal, LeavesNone, ShowsNone, is_at_end}
use Rattle.api_sessions.specs.Reading.{is_drained, is_read_fault, is_waiting, is_write_fault}
use Rattle.api_sessions.specs.Reading.{quiet_end, raised_where}
use Rattle.api_sessions.specs.Requests.{IsRefusedAs, IsRequest}
use Rattle.http_wire.specs.declared.paused.Paused.{Paused}
use Rattle.http_wire.specs.Ended.{drained}
use Rattle.http_wire.specs.Paused.{paused_by, quiets_behind}
use Rattle.http_wire.specs.Next.{IsAsked}
use Rattle.http_wire.proofs.Endings.{goes_on as still_open}
use Rattle.line_base.specs.Lines.{Line, told_closing}
use Rattle.api_sessions.specs.declared.which.Which.TheVariants as interfaces
use Rattle.api_sessions.specs.Serving.{Answers, EndsWithout, HasCauses, IsDelivered, IsServing}
use Rattle.api_sessions.specs.Serving.{Serves}
use Rattle.api_sessions.specs.Serving.{IsQuiet, Turns, ended_in, one_more}
use Rattle.api_sessions.specs.Serving.{while_closing}

pub gives_none : (a b : Option (List ℕ)) → Keeps a b → Appends a b []
gives_none None b keeps = tt
gives_none (Some old) None keeps = absurd keeps
gives_none (Some old) (Some new) keeps = keeps ∙ sym (append-nil old)

-- behind bytes that stayed
pub given_behind : (a b c : Option (List ℕ)) (sent : List ℕ) → Keeps a b → Appends b c sent
    → Appends a c sent
given_behind a b c sent keeps gives = Appends-trans a b c [] sent (gives_none a b keeps) gives

-- ---- replies

first_false : (a b : Bool) → (a || b) ≡ false → a ≡ false
first_false true b is = is
first_false false b is = refl

second_false : (a b : Bool) → (a || b) ≡ false → b ≡ false
second_false true b is = absurd (cc)
second_false false b is = is

ends_behind : (head : Head) (reply : ApiReply) (sent : List ℕ) → sent ≡ reply.bytes.items
    → (closing : Bool) → (reply.stops || asks_to_close head) ≡ closing → (last : Bool)
    → IsDelivered head last reply sent reply.stops (end_of closing last)
ends_behind head reply sent whole true is last = (is, whole, refl)
ends_behind head reply sent whole false is true =
    (is, refl, whole, first_false reply.stops (asks_to_close head) is)
ends_behind head reply sent whole false is false =
    (is, refl, whole, first_false reply.stops (asks_to_close head) is)

-- a reply that was written whole
pub delivered : (head : Head) (last : Bool) (reply : ApiReply) (sent : List ℕ)
    (result : Option Ended) → sent ≡ reply.bytes.items
    → (closing : Bool) → closing ≡ asks_to_close head → result ≡ end_of (reply.stops || closing)
    last → IsDelivered head last reply sent reply.stops result
delivered head last reply sent result whole closing closed is =
    subst (λ (r : Option Ended). IsDelivered head last reply sent reply.stops r)
    (sym (is ∙ ap (λ (x : Bool). end_of (reply.stops || x) last) closed))
    (ends_behind head reply sent whole (reply.stops || asks_to_close head) refl last)

-- ---- turns

module _ (bytes : List ℕ) where
  -- a connection that ended with no reply
  pub quiet_end_of : (end : Ended) → ShowsNone bytes (Ends end) → EndsWithout bytes [] end
  quiet_end_of ended.PeerEnded shows = (shows, refl)
  quiet_end_of ended.Cut shows = (shows, refl)
  quiet_end_of ended.ReadFault shows = (shows, refl)
  quiet_end_of ended.OutOfMemory shows = refl
  quiet_end_of ended.Closed shows = absurd shows
  quiet_end_of ended.Spent shows = absurd shows
  quiet_end_of ended.Drained shows = (shows, refl)
  quiet_end_of ended.WriteFault shows = absurd shows
  quiet_end_of ended.UpstreamCut shows = absurd shows

  -- or with a refusal
  pub refusal_end : (err : OwnError) (with_body : Bool) (sent : List ℕ) (end : Ended)
      → IsRefusedAs bytes err with_body → IsRefusal err with_body sent end
      → EndsWithout bytes sent end
  refusal_end err with_body sent ended.Closed is written = (err, with_body, is, written)
  refusal_end err with_body sent ended.WriteFault is written = (err, with_body, is, written)
  refusal_end err with_body sent ended.OutOfMemory is written = written
  refusal_end err with_body sent ended.PeerEnded is written = absurd written
  refusal_end err with_body sent ended.Cut is written = absurd written
  refusal_end err with_body sent ended.Spent is written = absurd written
  refusal_end err with_body sent ended.Drained is written = absurd written
  refusal_end err with_body sent ended.ReadFault is written = absurd written
  refusal_end err with_body sent ended.UpstreamCut is written = absurd written

-- while the listeners are not closing, a request finds its interface as it is
found_same : (w : Which) → while_closing false w ≡ w
found_same interfaces.Namerd = refl
found_same (interfaces.Admin true) = refl
found_same (interfaces.Admin false) = refl
found_same (interfaces.Feed run) = refl

-- a request that was read has a target that is served
pub is_taken : (bytes kept : List ℕ) (head : Head) (body : List ℕ)
    → ((more : List ℕ) → IsRequest (bytes ++ more) head body (kept ++ more)) → IsTaken head
is_taken bytes kept head body request =
    let tested = (request []).front.tested in
    record { other = tested.other; form = tested.form; served = tested.served }

module _ {J : Type 0} {g : Ghosts J} (which : Which) (last : Bool) (head : Head) (body : List ℕ)
    (old new : Sources J g) (sent : List ℕ) where
  no_want : None ≡ Some ended.OutOfMemory → ⊥
  no_want is = cc

  goes_on : (stopped : Bool) → Answers which last head body old new sent stopped None → stopped
      ≡ false
  goes_on stopped (inl replied) = replied.delivered.3
  goes_on stopped (inr wants) = absurd (no_want wants.is)

  -- behind the last request that a connection may carry, it ends
  pub not_last : Answers which last head body old new sent false None → last ≡ false
  not_last (inl replied) = replied.delivered.1
  not_last (inr wants) = absurd (no_want wants.is)

  -- a turn in which a request was answered, by the interface as it found it
  pub turned : (base : Which) (bytes kept : List ℕ) (spent closing stopped : Bool)
      (end result : Option Ended)
      → which ≡ while_closing closing base → last ≡ (spent || closing) → IsAsked spent closing
      → ((more : List ℕ) → IsRequest (bytes ++ more) head body (kept ++ more))
      → Answers which last head body old new sent stopped end → result ≡ drained closing end
      → Turns base spent closing old new bytes kept sent stopped (paused_by result)
  turned base bytes kept spent closing stopped end None is_base is_last asked request answers is =
      let answered : Answers which last head body old new sent stopped None
      = subst (λ (e : Option Ended). Answers which last head body old new sent stopped e)
      (still_open closing end is) answers in
      let on = goes_on stopped answered in
      let plain : Answers which last head body old new sent false None
      = subst (λ (s : Bool). Answers which last head body old new sent s None) on answered in
      let off : (spent || closing) ≡ false = sym is_last ∙ not_last plain in
      let same : last ≡ spent = is_last ∙ (off ∙ sym (first_false spent closing off)) in
      let going : closing ≡ false = second_false spent closing off in
      let found : which ≡ base =
      is_base ∙ (ap (λ (b : Bool). while_closing b base) going ∙ found_same base) in
      let whole : Answers which spent head body old new sent false None
      = subst (λ (l : Bool). Answers which l head body old new sent false None) same plain in (
        on,
        going,
        (
          head,
          body,
          request,
          subst (λ (w : Which). Answers w spent head body old new sent false None) found whole,
        ),
      )
  turned base bytes kept spent closing stopped end (Some e) is_base is_last asked request answers is
      = inl (record {
        head = head;
        body = body;
        behind = kept ++ [];
        request = subst (λ (b : List ℕ). IsRequest b head body (kept ++ [])) (append-nil bytes)
            (request []);
        asked = asked;
        end = end;
        answers =
            subst (λ (w : Which). Answers w (spent || closing) head body old new sent stopped end)
            is_base
            (subst (λ (l : Bool). Answers which l head body old new sent stopped end) is_last
            answers);
        is = is;
      })

-- ---- why a connection ended

-- a reply ends a connection neither by its bytes nor by a failed read
answered_still : {J : Type 0} {g : Ghosts J} (which : Which) (last : Bool) (head : Head)
    (body : List ℕ) (old new : Sources J g) (sent : List ℕ) (stopped : Bool) (end : Option Ended)
    → Answers which last head body old new sent stopped end
    → (is_at_end end ≡ false) × (is_read_fault end ≡ false)
answered_still which last head body old new sent stopped end (inr wants) =
    subst (λ (e : Option Ended). (is_at_end e ≡ false) × (is_read_fault e ≡ false)) (sym wants.is)
    (refl, refl)
answered_still which last head body old new sent stopped end (inl replied) =
    by_end end replied.delivered
  where
    by_end : (e : Option Ended) → IsDelivered head last replied.reply sent stopped e
        → (is_at_end e ≡ false) × (is_read_fault e ≡ false)
    by_end None delivered = (refl, refl)
    by_end (Some ended.Closed) delivered = (refl, refl)
    by_end (Some ended.Spent) delivered = (refl, refl)
    by_end (Some ended.Drained) delivered = (refl, refl)
    by_end (Some ended.WriteFault) delivered = (refl, refl)
    by_end (Some ended.PeerEnded) delivered = absurd delivered
    by_end (Some ended.Cut) delivered = absurd delivered
    by_end (Some ended.ReadFault) delivered = absurd delivered
    by_end (Some ended.UpstreamCut) delivered = (refl, refl)
    by_end (Some ended.OutOfMemory) delivered = (refl, refl)

-- the closing of the listeners is told by none of the counts of reads and writes
drained_same : (closing : Bool) (end : Option Ended)
    → (is_at_end (drained closing end) ≡ is_at_end end)
    × (is_read_fault (drained closing end) ≡ is_read_fault end)
    × (is_write_fault (drained closing end) ≡ is_write_fault end)
drained_same false end = (refl, refl, refl)
drained_same true None = (refl, refl, refl)
drained_same true (Some ended.PeerEnded) = (refl, refl, refl)
drained_same true (Some ended.Cut) = (refl, refl, refl)
drained_same true (Some ended.Closed) = (refl, refl, refl)
drained_same true (Some ended.Spent) = (refl, refl, refl)
drained_same true (Some ended.Drained) = (refl, refl, refl)
drained_same true (Some ended.ReadFault) = (refl, refl, refl)
drained_same true (Some ended.WriteFault) = (refl, refl, refl)
drained_same true (Some ended.UpstreamCut) = (refl, refl, refl)
drained_same true (Some ended.OutOfMemory) = (refl, refl, refl)

-- a reply that is written whole
pub end_writes : (closes last : Bool) (result : Option Ended) → result ≡ end_of closes last
    → is_write_fault result ≡ false
end_writes closes last result is = ap is_write_fault is ∙ by_case closes last
  where
    by_case : (c l : Bool) → is_write_fault (end_of c l) ≡ false
    by_case true l = refl
    by_case false true = refl
    by_case false false = refl

-- a count that does not rise
pub stays_at : (is_so : Bool) (before now : ℕ) → is_so ≡ false → now ≡ before
    → now ≡ raised_where is_so before
stays_at is_so before now off same = same ∙ ap (λ (b : Bool). raised_where b before) (sym off)

module _ (e0 e1 e2 f0 f1 f2 w0 w1 w2 : ℕ) (ends : e2 ≡ e1) (faults : f2 ≡ f1)
    (still : w1 ≡ w0) where
  -- for no end of its bytes
  other_causes : HasReadCauses e0 e1 f0 f1 None → (result : Option Ended)
      → is_at_end result ≡ false → is_read_fault result ≡ false
      → w2 ≡ raised_where (is_write_fault result) w1 → HasCauses e0 e2 f0 f2 w0 w2 result
  other_causes read result no_end no_fault wrote = record {
    reading = record {
      ends = stays_at (is_at_end result) e0 e2 no_end (ends ∙ read.ends);
      faults = stays_at (is_read_fault result) f0 f2 no_fault (faults ∙ read.faults);
    };
    writes = wrote ∙ ap (raised_where (is_write_fault result)) still;
  }

  -- behind an answer
  pub replied_causes : HasReadCauses e0 e1 f0 f1 None → {J : Type 0} {g : Ghosts J}
      (which : Which) (last : Bool) (head : Head) (body : List ℕ) (old new : Sources J g)
      (sent : List ℕ) (stopped : Bool) (result : Option Ended) (closing : Bool)
      (end : Option Ended) → result ≡ drained closing end
      → Answers which last head body old new sent stopped end
      → w2 ≡ raised_where (is_write_fault end) w1 → HasCauses e0 e2 f0 f2 w0 w2 result
  replied_causes read which last head body old new sent stopped result closing end behind answers
      wrote =
      let same = drained_same closing end in
      let quiet = answered_still which last head body old new sent stopped end answers in
      other_causes read result
      (ap is_at_end behind ∙ (same.0 ∙ quiet.0))
      (ap is_read_fault behind ∙ (same.1 ∙ quiet.1))
      (wrote
      ∙ ap (λ (b : Bool). raised_where b w1) (sym (ap is_write_fault behind ∙ same.2)))

  -- behind a refusal
  refusal_causes : HasReadCauses e0 e1 f0 f1 None → (err : OwnError) (with_body : Bool)
      (sent : List ℕ) (result : Ended) → IsRefusal err with_body sent result
      → w2 ≡ raised_where (is_write_fault (Some result)) w1
      → HasCauses e0 e2 f0 f2 w0 w2 (Some result)
  refusal_causes read err with_body sent result written wrote =
      let quiet = by_end result written in
      other_causes read (Some result) quiet.0 quiet.1 wrote
    where
      by_end : (e : Ended) → IsRefusal err with_body sent e
          → (is_at_end (Some e) ≡ false) × (is_read_fault (Some e) ≡ false)
      by_end ended.Closed refusal = (refl, refl)
      by_end ended.WriteFault refusal = (refl, refl)
      by_end ended.OutOfMemory refusal = (refl, refl)
      by_end ended.PeerEnded refusal = absurd refusal
      by_end ended.Cut refusal = absurd refusal
      by_end ended.Spent refusal = (refl, refl)
      by_end ended.Drained refusal = (refl, refl)
      by_end ended.ReadFault refusal = absurd refusal
      by_end ended.UpstreamCut refusal = (refl, refl)

  pub refused_causes : (T : Type 0) (refused : NoRequest) (err : OwnError) (with_body : Bool)
      → refused ≡ Own err with_body
      → HasReadCauses e0 e1 f0 f1 (quiet_end {T = T} (Err refused))
      → (same_err : OwnError) (same_body : Bool) (sent : List ℕ) (result : Ended)
      → IsRefusal same_err same_body sent result
      → w2 ≡ raised_where (is_write_fault (Some result)) w1
      → HasCauses e0 e2 f0 f2 w0 w2 (Some result)
  refused_causes T refused err with_body is read same_err same_body sent result written wrote =
      refusal_causes
      (subst (λ (r : NoRequest). HasReadCauses e0 e1 f0 f1 (quiet_end {T = T} (Err r))) is read)
      same_err same_body sent result written wrote

-- with nothing written
module _ (bytes : List ℕ) (e0 e1 f0 f1 w0 w1 : ℕ) (still : w1 ≡ w0) where
  quiet_causes : (end : Ended) → ShowsNone bytes (Ends end)
      → HasReadCauses e0 e1 f0 f1 (Some end) → HasCauses e0 e1 f0 f1 w0 w1 (Some end)
  quiet_causes end shows read =
      record {
        reading = read;
        writes = stays_at (is_write_fault (Some end)) w0 w1 (by_end end shows) still;
      }
    where
      by_end : (e : Ended) → ShowsNone bytes (Ends e) → is_write_fault (Some e) ≡ false
      by_end ended.PeerEnded told = refl
      by_end ended.Cut told = refl
      by_end ended.ReadFault told = refl
      by_end ended.OutOfMemory told = refl
      by_end ended.Closed told = refl
      by_end ended.Spent told = refl
      by_end ended.Drained told = refl
      by_end ended.WriteFault told = absurd told
      by_end ended.UpstreamCut told = refl

  pub ended_causes : (T : Type 0) (refused : NoRequest) (end same : Ended) → refused ≡ Ends end
      → ShowsNone bytes refused → HasReadCauses e0 e1 f0 f1 (quiet_end {T = T} (Err refused))
      → end ≡ same → HasCauses e0 e1 f0 f1 w0 w1 (Some same)
  ended_causes T refused end same is shows read is_same =
      subst (λ (e : Ended). HasCauses e0 e1 f0 f1 w0 w1 (Some e)) is_same
      (quiet_causes end (subst (ShowsNone bytes) is shows)
      (subst (λ (r : NoRequest). HasReadCauses e0 e1 f0 f1 (quiet_end {T = T} (Err r))) is read))

-- ---- a connection

pub fewer : (n : ℕ) → n < 10000 → eqb (n + 1) 10000 ≡ false → n + 1 < 10000
fewer n less other = grind (arith, nat_tests)

module _ {J : Type 0} {g : Ghosts J} (which : Which) (from : ℕ) (first : Sources J g) (n : ℕ)
    (p q : Sources J g) (came gave came2 gave2 kept kept2 : List ℕ)
    (serves : (more : List ℕ)
    → Serves which from first (came ++ more) n p (kept ++ more) gave) where
  -- one request more was answered
  pub serves_more : (stopped closing : Bool)
      → Turns which (eqb (n + 1) 10000) closing p q (kept ++ came2) kept2 gave2 stopped None
      → (more : List ℕ)
      → Serves which from first ((came ++ came2) ++ more) (n + 1) q (kept2 ++ more)
      (gave ++ gave2)
  serves_more stopped closing (on, off, (head, body, request, answers)) more =
      subst
      (λ (bytes : List ℕ). Serves which from first bytes (n + 1) q (kept2 ++ more) (gave ++ gave2))
      (sym (append_assoc came came2 more))
      (one_more n p q (kept ++ (came2 ++ more)) (kept2 ++ more) gave gave2 head body
      (serves (came2 ++ more))
      (subst (λ (bytes : List ℕ). IsRequest bytes head body (kept2 ++ more))
      (append_assoc kept came2 more) (request more)) answers)

  pub few_served : n < 10000 → (stopped closing : Bool)
      → Turns which (eqb (n + 1) 10000) closing p q (kept ++ came2) kept2 gave2 stopped None
      → n + 1 < 10000
  few_served less stopped closing (on, off, (head, body, request, answers)) =
      fewer n less (not_last which (eqb (n + 1) 10000) head body p q gave2 answers)

  -- and it waits, or ended
  pub serves_all : (stopped closing : Bool) (result : Paused)
      → Turns which (eqb (n + 1) 10000) closing p q (kept ++ came2) kept2 gave2 stopped
      (Some result)
      → IsServing which from n first q (came ++ came2) (gave ++ gave2) stopped closing result
  serves_all stopped closing result pauses =
      record {
        mid = p;
        rest = kept ++ came2;
        first = gave;
        final = gave2;
        serves = serves came2;
        pauses = pauses;
        all = refl;
      }

-- behind the turns before it, why the last one ended, if it did
pub all_causes : (e0 e1 e2 f0 f1 f2 w0 w1 w2 : ℕ) (end : Option Ended) → e1 ≡ e0 → f1 ≡ f0
    → w1 ≡ w0 → HasCauses e1 e2 f1 f2 w1 w2 end → HasCauses e0 e2 f0 f2 w0 w2 end
all_causes e0 e1 e2 f0 f1 f2 w0 w1 w2 end e f w causes = record {
  reading = record {
    ends = causes.reading.ends ∙ ap (raised_where (is_at_end end)) e;
    faults = causes.reading.faults ∙ ap (raised_where (is_read_fault end)) f;
  };
  writes = causes.writes ∙ ap (raised_where (is_write_fault end)) w;
}

-- where there was no memory, nothing was read or written
pub want_causes : (e f w : ℕ) → HasCauses e e f f w w (Some ended.OutOfMemory)
want_causes e f w = record { reading = record { ends = refl; faults = refl }; writes = refl }

-- how a connection stands behind a request says how it ended, if it did
pub ended_same : (end : Option Ended) → ended_in (paused_by end) ≡ end
ended_same None = refl
ended_same (Some end) = refl

-- ---- what is left where a connection ended since its bytes had ended

-- it did not end so
pub not_at_end : (left : Option (List ℕ)) (result : Option Ended) → is_at_end result ≡ false
    → LeavesNone left result
not_at_end left result no_end = λ at. absurd (true_false (sym at ∙ no_end))
  where
    true_false : true ≡ false → ⊥
    true_false is = cc

-- behind an answer
pub replied_left : (left : Option (List ℕ)) {J : Type 0} {g : Ghosts J} (which : Which)
    (last : Bool) (head : Head) (body : List ℕ) (old new : Sources J g) (sent : List ℕ)
    (stopped : Bool) (result : Option Ended) (closing : Bool) (end : Option Ended)
    → result ≡ drained closing end → Answers which last head body old new sent stopped end
    → LeavesNone left result
replied_left left which last head body old new sent stopped result closing end behind answers =
    not_at_end left result
    (ap is_at_end behind ∙ ((drained_same closing end).0
    ∙ (answered_still which last head body old new sent stopped end answers).0))

-- behind a refusal
pub refused_left : (left : Option (List ℕ)) (err : OwnError) (with_body : Bool) (sent : List ℕ)
    (end : Ended) → IsRefusal err with_body sent end → LeavesNone left (Some end)
refused_left left err with_body sent ended.Closed written = λ at. absurd (cc)
refused_left left err with_body sent ended.WriteFault written = λ at. absurd (cc)
refused_left left err with_body sent ended.OutOfMemory written = λ at. absurd (cc)
refused_left left err with_body sent ended.PeerEnded written = absurd written
refused_left left err with_body sent ended.Cut written = absurd written
refused_left left err with_body sent ended.Spent written = absurd written
refused_left left err with_body sent ended.Drained written = absurd written
refused_left left err with_body sent ended.ReadFault written = absurd written
refused_left left err with_body sent ended.UpstreamCut written = absurd written

-- with nothing written
pub ended_left : (T : Type 0) (left : Option (List ℕ)) (refused : NoRequest) (end same : Ended)
    → refused ≡ Ends end → LeavesNone left (quiet_end {T = T} (Err refused)) → end ≡ same
    → LeavesNone left (Some same)
ended_left T left refused end same is nothing is_same =
    subst (λ (e : Ended). LeavesNone left (Some e)) is_same
    (subst (λ (r : NoRequest). LeavesNone left (quiet_end {T = T} (Err r))) is nothing)

-- ---- turns with no request that is answered

pub quiet_turn : (bytes : List ℕ) (refused : NoRequest) (end same : Ended) → refused ≡ Ends end
    → ShowsNone bytes refused → end ≡ same → EndsWithout bytes [] same
quiet_turn bytes refused end same is shows is_same = subst (EndsWithout bytes []) is_same
    (quiet_end_of bytes end (subst (ShowsNone bytes) is shows))

pub refused_turn : (bytes : List ℕ) (refused : NoRequest) (err same_err : OwnError)
    (with_body same_body : Bool) (sent : List ℕ) (end : Ended) → refused ≡ Own err with_body
    → ShowsNone bytes refused → IsRefusal same_err same_body sent end → err ≡ same_err → with_body
    ≡ same_body → EndsWithout bytes sent end
refused_turn bytes refused err same_err with_body same_body sent end is shows written e w =
    refusal_end bytes err with_body sent end (subst (ShowsNone bytes) is shows)
    (subst (λ (x : OwnError). IsRefusal x with_body sent end) (sym e)
    (subst (λ (b : Bool). IsRefusal same_err b sent end) (sym w) written))

-- a wait for a request of which nothing came
pub quiet_wait : {J : Type 0} {g : Ghosts J} (bytes : List ℕ) (refused : NoRequest)
    (pass : Sources J g)
    → refused ≡ Waits → ShowsNone bytes refused → IsQuiet bytes pass pass [] false false
quiet_wait bytes refused pass is shows = record {
  none = subst (ShowsNone bytes) is shows;
  still = refl;
  nothing = refl;
  goes_on = refl;
  open_ = refl;
}

-- in which no count fell
pub wait_causes : (T : Type 0) (e0 e1 f0 f1 w0 w1 : ℕ) (refused : NoRequest) → refused ≡ Waits
    → HasReadCauses e0 e1 f0 f1 (quiet_end {T = T} (Err refused)) → w1 ≡ w0
    → HasCauses e0 e1 f0 f1 w0 w1 None
wait_causes T e0 e1 f0 f1 w0 w1 refused is read still = record {
  reading =
      subst (λ (r : NoRequest). HasReadCauses e0 e1 f0 f1 (quiet_end {T = T} (Err r))) is read;
  writes = still;
}

-- ---- whether the listeners are closing

-- a refusal closes, and does not say so
pub refusal_open : (err : OwnError) (with_body : Bool) (sent : List ℕ) (end : Ended)
    → IsRefusal err with_body sent end → false ≡ is_drained (Some end)
refusal_open err with_body sent ended.Closed written = refl
refusal_open err with_body sent ended.WriteFault written = refl
refusal_open err with_body sent ended.OutOfMemory written = refl
refusal_open err with_body sent ended.PeerEnded written = refl
refusal_open err with_body sent ended.Cut written = refl
refusal_open err with_body sent ended.Spent written = refl
refusal_open err with_body sent ended.Drained written = absurd written
refusal_open err with_body sent ended.ReadFault written = refl
refusal_open err with_body sent ended.UpstreamCut written = refl

module _ (T : Type 0) (before now : ℕ) (refused : NoRequest)
    (told : now ≡ raised_where (is_drained (quiet_end {T = T} (Err refused))) before) where
  abbrev Told : NoRequest → Type 0
  Told x = now ≡ raised_where (is_drained (quiet_end {T = T} (Err x))) before

  pub own_told : (err : OwnError) (with_body : Bool) → refused ≡ Own err with_body → now ≡ before
  own_told err with_body is = subst Told is told

  pub wait_told : refused ≡ Waits → now ≡ before
  wait_told is = subst Told is told

  pub ends_told : (end same : Ended) → refused ≡ Ends end → end ≡ same
      → now ≡ raised_where (is_drained (Some same)) before
  ends_told end same is is_same =
      subst (λ (e : Ended). now ≡ raised_where (is_drained (Some e)) before) is_same
      (subst Told is told)

-- ---- whether nothing came for a while

-- no request ends by that
pub request_quiets : (end : Option Ended) (count : ℕ) → quiets_behind (paused_by end) count ≡ count
request_quiets None count = refl
request_quiets (Some end) count = refl

module _ (T : Type 0) (before now : ℕ) (refused : NoRequest)
    (told : now ≡ raised_where (is_waiting {T = T} (Err refused)) before) where
  abbrev Waited : NoRequest → Type 0
  Waited x = now ≡ raised_where (is_waiting {T = T} (Err x)) before

  pub own_waits : (err : OwnError) (with_body : Bool) → refused ≡ Own err with_body → now ≡ before
  own_waits err with_body is = subst Waited is told

  pub ends_waits : (end : Ended) → refused ≡ Ends end → now ≡ before
  ends_waits end is = subst Waited is told

  pub wait_waits : refused ≡ Waits → now ≡ raised before
  wait_waits is = subst Waited is told

-- a connection that was asked
pub record WasAsked (closing : Bool) (old new : Line) : Type 0 where
  pub left : new.left ≡ old.left
  pub given : new.given ≡ old.given
  pub reads : new.read_faults ≡ old.read_faults
  pub writes : new.write_faults ≡ old.write_faults
  pub ends : new.ends ≡ old.ends
  pub closings : new.closings ≡ raised_where closing old.closings
  pub quiets : new.quiets ≡ old.quiets

pub was_asked : (closing : Bool) (old new : Line) → new ≡ told_closing closing old
    → WasAsked closing old new
was_asked false old new is = record {
  left = ap (λ (l : Line). l.left) is;
  given = ap (λ (l : Line). l.given) is;
  reads = ap (λ (l : Line). l.read_faults) is;
  writes = ap (λ (l : Line). l.write_faults) is;
  ends = ap (λ (l : Line). l.ends) is;
  closings = ap (λ (l : Line). l.closings) is;
  quiets = ap (λ (l : Line). l.quiets) is;
}
was_asked true old new is = record {
  left = ap (λ (l : Line). l.left) is;
  given = ap (λ (l : Line). l.given) is;
  reads = ap (λ (l : Line). l.read_faults) is;
  writes = ap (λ (l : Line). l.write_faults) is;
  ends = ap (λ (l : Line). l.ends) is;
  closings = ap (λ (l : Line). l.closings) is;
  quiets = ap (λ (l : Line). l.quiets) is;
}
