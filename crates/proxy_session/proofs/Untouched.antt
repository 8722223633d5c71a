-- A try behind which another attempt follows leaves the client's connection as it was.
use Rattle.std.proofs.Common.{◌≡◌, ◌≢◌, ℕ, eqb, Bool, true, false, List, [], ◌∷◌, ◌++◌}
use Rattle.std.proofs.Common.{length, refl, sym, subst, ap, ◌∙◌, inl, inr, append-nil, Option, Some}
use Rattle.std.proofs.Common.{None, Result, Ok, Err, arith}
use Rattle.std.specs.List.{concat}
use Rattle.std.specs.Io.KnownBytes.{Consumes, Keeps}
use Rattle.std.proofs.KnownBytes.{Keeps-trans}
use Rattle.std.proofs.lemmas.Bool.Decides.{nat_tests}
use Rattle.addr_book.specs.declared.addr.Addr.{Addr}
use Rattle.body_wire.specs.declared.end.BodyEnd.{BodyEnd}
use Rattle.body_wire.specs.declared.end.BodyEnd.TheVariants.{BadChunk, Cut, TooLong, ReadFault}
use Rattle.body_wire.specs.declared.end.BodyEnd.TheVariants.{WriteFault, SendFault, RecvFault}
use Rattle.body_wire.specs.declared.end.BodyEnd.TheVariants.{OutOfMemory}
use Rattle.body_wire.specs.Bodies.{IsFrontBody, IsUnfinished}
use Rattle.body_wire.specs.Passing.{InTurn, form_of, is_at_end, most_passed, runs_to_end}
use Rattle.http_wire.specs.declared.frames.Framing.{Framing}
use Rattle.http_wire.specs.declared.head.Head.{Head}
use Rattle.line_base.specs.Dials.{Upstream}
use Rattle.line_base.specs.Lines.{Line, Rests}
use Rattle.replica_try.specs.declared.final_head.HeadFault.{HeadFault}
use Rattle.replica_try.specs.declared.moved.Moved.{Moved}
use Rattle.replica_try.specs.declared.tried.Tried.{Tried}
use Rattle.replica_try.specs.declared.tried.Tried.TheVariants as tried
use Rattle.proxy_session.specs.Attempts.{may_repeat}
use Rattle.replica_try.specs.Trying.{Converses, GoesOn, Replies, Tries, TriesAnew}
use Rattle.replica_try.specs.Trying.{is_repeatable, is_silent, is_without_body, only_sent}
use Rattle.replica_try.specs.Trying.{tried_of_back, tried_of_body, tried_of_head}
use Rattle.replica_try.proofs.BothHold.{and_left}
use Rattle.proxy_session.proofs.Bodies.{front_of_body}

-- ---- a body that has no byte

pub nothing_of : (xs : List ℕ) → length xs ≡ 0 → xs ≡ []
nothing_of [] is = refl
nothing_of (x ∷ xs) is = absurd (omega (arith, is))

pub zero_of : (n : ℕ) → eqb n 0 ≡ true → n ≡ 0
zero_of n is = grind (arith, nat_tests)

none_taken : (framing : Framing) (chunked : Bool) (limit : ℕ) (taken passed : List ℕ) (count : ℕ)
    → is_without_body framing ≡ true
    → IsFrontBody framing (form_of chunked) limit taken passed count
    → taken ≡ []
none_taken Framing.Nothing chunked limit taken passed count is front = front.1
none_taken (Framing.Length n) chunked limit taken passed count is (plain, few, fits) =
    let none = zero_of n is in nothing_of taken (omega (arith, plain.total, few, none))
none_taken Framing.Chunked chunked limit taken passed count is front = absurd (cc)
none_taken Framing.ToEnd chunked limit taken passed count is front = absurd (cc)

never_open : (framing : Framing) (chunked : Bool) (limit : ℕ) (taken passed : List ℕ) (count : ℕ)
    (waiting : List ℕ) → is_without_body framing ≡ true
    → IsUnfinished framing (form_of chunked) limit taken passed count waiting → ⊥
never_open Framing.Nothing chunked limit taken passed count waiting is open_ = open_
never_open (Framing.Length n) chunked limit taken passed count waiting is
    (plain, less, none, fits) =
    let no = zero_of n is in omega (arith, less, no)
never_open Framing.Chunked chunked limit taken passed count waiting is open_ = absurd (cc)
never_open Framing.ToEnd chunked limit taken passed count waiting is open_ = absurd (cc)

no_pieces : (framing : Framing) (chunked : Bool) (limit : ℕ) (head kept : List ℕ)
    (pieces : List (List ℕ)) (sent : List ℕ) → is_without_body framing ≡ true
    → InTurn framing (form_of chunked) limit head kept pieces sent → pieces ≡ []
no_pieces framing chunked limit head kept pieces sent is (inl none) = none
no_pieces framing chunked limit head kept pieces sent is (inr piece) =
    absurd (never_open framing chunked limit piece.taken piece.passed piece.count piece.waiting is
    piece.open_)

consumes_none : (a b : Option (List ℕ)) → Consumes a b [] → Keeps a b
consumes_none None b took = tt
consumes_none (Some xs) None took = absurd took
consumes_none (Some xs) (Some ys) took = sym took

ends_elsewhere : (framing : Framing) → is_without_body framing ≡ true
    → runs_to_end framing ≡ false
ends_elsewhere Framing.Nothing is = refl
ends_elsewhere (Framing.Length n) is = refl
ends_elsewhere Framing.Chunked is = refl
ends_elsewhere Framing.ToEnd is = absurd (cc)

abbrev Untouched : Line → Line → List ℕ → List ℕ → Type 0
Untouched old new kept kept_after = Rests old new × (kept_after ≡ kept)

body_untouched : (onward : List ℕ) (framing : Framing) (old new : Line) (kept kept_after : List ℕ)
    (f0 f1 : ℕ) (sent : List ℕ) (result : Result ℕ BodyEnd)
    → GoesOn onward framing old new kept kept_after f0 f1 sent result
    → is_without_body framing ≡ true → result ≢ Err ReadFault → is_at_end framing result ≡ false
    → Untouched old new kept kept_after
body_untouched onward framing old new kept kept_after f0 f1 sent result goes bare read before_end =
    let p = goes.passes in
    let none : goes.came ≡ [] = no_pieces framing true most_passed onward kept goes.came
    sent bare p.in_turn in
    let nothing : p.taken ≡ [] = none_taken framing true most_passed p.taken p.passed
    goes.count bare
    (front_of_body true most_passed p.taken p.passed goes.count p.within kept_after framing result
    p.ends) in (
      record {
        left =
            consumes_none old.left new.left
            (subst (λ (c : List (List ℕ)). Consumes old.left new.left (concat c)) none goes.taken);
        given = goes.given;
        read_faults = goes.reads.others read;
        write_faults = goes.writes;
        ends = goes.ends.others before_end;
        closings = goes.closings;
        quiets = goes.quiets;
      },
      sym (ap (λ (l : List ℕ). l ++ kept_after) nothing)
          ∙ (sym p.bytes ∙ (ap (λ (c : List (List ℕ)). kept ++ concat c) none ∙ append-nil kept)),
    )

pub rests_on : (a b c : Line) → Rests a b → Rests b c → Rests a c
rests_on a b c p q = record {
  left = Keeps-trans a.left b.left c.left p.left q.left;
  given = Keeps-trans a.given b.given c.given p.given q.given;
  read_faults = q.read_faults ∙ p.read_faults;
  write_faults = q.write_faults ∙ p.write_faults;
  ends = q.ends ∙ p.ends;
  closings = q.closings ∙ p.closings;
  quiets = q.quiets ∙ p.quiets;
}

-- ---- the ways of a try

module _ (head : Head) (framing : Framing) where
  abbrev Repeats : Tried → Type 0
  Repeats how = may_repeat head framing how ≡ true

  bare : is_repeatable head framing ≡ true → is_without_body framing ≡ true
  bare is = and_left (is_without_body framing) _ is

  stopped : (onward : List ℕ) (old new : Line) (kept kept_after : List ℕ) (f0 f1 : ℕ)
      (sent : List ℕ) (end : BodyEnd) (count : ℕ) → Repeats (tried_of_body count end)
      → GoesOn onward framing old new kept kept_after f0 f1 sent (Err end)
      → Untouched old new kept kept_after
  stopped onward old new kept kept_after f0 f1 sent (BadChunk n) count is goes = absurd (cc)
  stopped onward old new kept kept_after f0 f1 sent Cut count is goes = absurd (cc)
  stopped onward old new kept kept_after f0 f1 sent TooLong count is goes = absurd (cc)
  stopped onward old new kept kept_after f0 f1 sent ReadFault count is goes = absurd (cc)
  stopped onward old new kept kept_after f0 f1 sent WriteFault count is goes = absurd (cc)
  stopped onward old new kept kept_after f0 f1 sent SendFault count is goes =
      body_untouched onward framing old new kept kept_after f0 f1 sent (Err SendFault) goes
      (bare is) (λ no. cc) refl
  stopped onward old new kept kept_after f0 f1 sent RecvFault count is goes = absurd (cc)
  stopped onward old new kept kept_after f0 f1 sent OutOfMemory count is goes = absurd (cc)

  no_head : (n : ℕ) (fault : HeadFault) → Repeats (tried_of_head n fault)
      → is_without_body framing ≡ true
  no_head n HeadFault.Silent is = bare is
  no_head n HeadFault.NoReply is = bare is
  no_head n HeadFault.OutOfMemory is = absurd (cc)

  never_back : (moved : Moved) (status : ℕ) (closes reusable : Bool) (r : Result ℕ BodyEnd)
      → Repeats (tried_of_back moved status closes reusable r) → ⊥
  never_back moved status closes reusable (Ok n) is = cc
  never_back moved status closes reusable (Err (BadChunk n)) is = cc
  never_back moved status closes reusable (Err Cut) is = cc
  never_back moved status closes reusable (Err TooLong) is = cc
  never_back moved status closes reusable (Err ReadFault) is = cc
  never_back moved status closes reusable (Err WriteFault) is = cc
  never_back moved status closes reusable (Err SendFault) is = cc
  never_back moved status closes reusable (Err RecvFault) is = cc
  never_back moved status closes reusable (Err OutOfMemory) is = cc

  replied : (last : Bool) (n : ℕ) (old new : Line) (f0 f1 : ℕ) (got : List (List ℕ)) (how : Tried)
      → Repeats how → Replies head last n old new f0 f1 got how
      → Rests old new × (is_without_body framing ≡ true)
  replied last n old new f0 f1 got how repeats (inl (fault, kept, hears, rests, is)) =
      (rests, no_head n fault (subst Repeats is repeats))
  replied last n old new f0 f1 got how repeats
      (inr (reply, fr, kept, between, before, behind, hears, inl none, is)) =
      let never : Repeats (tried.OutOfMemory (only_sent n) None) = subst Repeats none.3 repeats in
      absurd (cc)
  replied last n old new f0 f1 got how repeats
      (inr (reply, fr, kept, between, before, behind, hears, inr (after, r, goes, way), is)) =
      absurd (never_back _ _ _ _ r (subst Repeats way repeats))

  conversed : (onward : List ℕ) (last : Bool) (old new : Line) (kept kept_after : List ℕ)
      (f0 f1 : ℕ) (sent : List ℕ) (got : List (List ℕ)) (how : Tried) → Repeats how
      → Converses head onward framing last old new kept kept_after f0 f1 sent got how
      → Untouched old new kept kept_after
  conversed onward last old new kept kept_after f0 f1 sent got how repeats
      (inl (end, goes, none, is)) =
      stopped onward old new kept kept_after f0 f1 sent end goes.count (subst Repeats is repeats)
      goes
  conversed onward last old new kept kept_after f0 f1 sent got how repeats
      (inr (n, mid, between, goes, replies)) =
      let behind = replied last n mid new between f1 got how repeats replies in
      let body = body_untouched onward framing old mid kept kept_after f0 between sent (Ok n) goes
      behind.1 (λ no. cc) (ends_elsewhere framing behind.1) in
      (rests_on old mid new body.0 behind.0, body.1)

  anew_untouched : (onward : List ℕ) (last : Bool) (addr : Addr) (old new : Line)
      (kept kept_after : List ℕ) (before now : Upstream) (how : Tried)
      → may_repeat head framing how ≡ true
      → TriesAnew head onward framing last addr old new kept kept_after before now how
      → Untouched old new kept kept_after
  anew_untouched onward last addr old new kept kept_after before now how repeats (inl none) =
      (none.line, none.kept_is)
  anew_untouched onward last addr old new kept kept_after before now how repeats (inr visit) =
      conversed onward last old new kept kept_after before.faults now.faults (concat visit.sent)
      visit.got how repeats visit.spoke

  -- a silent try of a request that may be sent again is one that may be repeated
  silence_repeats : (how : Tried) → is_repeatable head framing ≡ true → is_silent how ≡ true
      → may_repeat head framing how ≡ true
  silence_repeats (tried.NotSent moved) again silent = again
  silence_repeats (tried.Silent moved) again silent = again
  silence_repeats tried.NotDialed again silent = refl
  silence_repeats (tried.BadBody moved) again silent = absurd (cc)
  silence_repeats (tried.LongBody moved) again silent = absurd (cc)
  silence_repeats (tried.BodyCut moved) again silent = absurd (cc)
  silence_repeats (tried.BodyFault moved) again silent = absurd (cc)
  silence_repeats (tried.NoReply moved) again silent = again
  silence_repeats (tried.ReplyCut moved status) again silent = absurd (cc)
  silence_repeats (tried.WrittenShort moved status) again silent = absurd (cc)
  silence_repeats (tried.Whole moved status closes reusable) again silent = absurd (cc)
  silence_repeats (tried.OutOfMemory moved status) again silent = absurd (cc)

  pub tried_untouched : (onward : List ℕ) (last : Bool) (addr : Addr) (old new : Line)
      (kept kept_after : List ℕ) (before now : Upstream) (how : Tried)
      → may_repeat head framing how ≡ true
      → Tries head onward framing last addr old new kept kept_after before now how
      → Rests old new × (kept_after ≡ kept)
  tried_untouched onward last addr old new kept kept_after before now how repeats (inl anew) =
      anew_untouched onward last addr old new kept kept_after before now how repeats anew
  tried_untouched onward last addr old new kept kept_after before now how repeats
      (inr (any, again, inl answered)) =
      conversed onward last old new kept kept_after before.faults now.faults
      (concat answered.visit.sent) answered.visit.got how repeats answered.visit.spoke
  tried_untouched onward last addr old new kept kept_after before now how repeats
      (inr (any, again, inr twice)) =
      let t = twice in
      let first = conversed onward last old t.line kept t.left before.faults t.mid.faults
      (concat t.visit.sent) t.visit.got t.first
      (silence_repeats t.first again (and_left (is_silent t.first) _ t.silent)) t.visit.spoke in
      let second = anew_untouched onward last addr t.line new t.left kept_after t.mid now how
      repeats t.anew in
      (rests_on old t.line new first.0 second.0, second.1 ∙ first.1)
