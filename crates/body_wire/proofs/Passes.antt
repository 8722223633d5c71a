-- How turns add up to a body that is passed on.
use Rattle.std.proofs.Common.{◌≡◌, ◌≢◌, inl, inr, ℕ, false, ◌+◌, ◌-◌, ◌<◌, ◌≤◌, List, [], ◌∷◌, ◌++◌}
use Rattle.std.proofs.Common.{length, refl, sym, ap, ◌∙◌, subst, arith, append_assoc, append-nil}
use Rattle.std.proofs.Common.{length-append, Some, None, Result, Ok, Err}
use Rattle.std.specs.List.{concat}
use Rattle.std.proofs.lemmas.List.Folds.{concat-append}
use Rattle.http_wire.specs.declared.frames.Framing.{Framing}
use Rattle.http_wire.specs.declared.frames.Framing.TheVariants.{Nothing, Length, Chunked, ToEnd}
use Rattle.body_wire.specs.declared.decoder.Decoder.{Decoder}
use Rattle.body_wire.specs.declared.decoder.StopCause.{StopCause}
use Rattle.body_wire.specs.declared.decoder.StopCause.TheVariants.{More, Whole, Bad, TooLong}
use Rattle.body_wire.specs.declared.end.BodyEnd.{BodyEnd}
use Rattle.body_wire.specs.declared.form.Form.{Form}
use Rattle.body_wire.specs.declared.turn.TurnFault.{TurnFault}
use Rattle.body_wire.specs.Bodies.{IsFrontBody, IsUnfinished}
use Rattle.body_wire.specs.declared.decoder.Place.{Place}
use Rattle.body_wire.specs.Passing.{most_piece, is_at_end, runs_to_end, Ends, IsFrontOf, IsSent}
use Rattle.body_wire.specs.Passing.{LastPiece, InTurn, PassesOn}
use Rattle.body_wire.specs.Places.{CanEnd}
use Rattle.body_wire.specs.Stands.{Holds, HoldsAt, Stops, most_left}
use Rattle.body_wire.specs.Turns.{Turns, TurnSends, answer_of, end_answer}
use Rattle.body_wire.proofs.Fronts.{front_body}
use Rattle.body_wire.proofs.Stopping.{no_bytes}

-- a body on its way: what was sent and what waits is the head and what goes on for the bytes that
-- were taken
pub record OnWay
    (framing : Framing) (form : Form) (limit : ℕ) (d : Decoder) (head kept : List ℕ)
    (pieces : List (List ℕ)) (sent waiting rest : List ℕ) : Type 0 where
  pub taken : List ℕ
  pub passed : List ℕ
  pub form_is : d.form ≡ form
  pub limit_is : d.limit ≡ limit
  pub holds : Holds framing d taken passed
  pub bytes : kept ++ concat pieces ≡ taken ++ rest
  pub sends : sent ++ waiting ≡ head ++ passed
  pub turns : InTurn framing form limit head kept pieces sent

-- before the first turn
pub begins : (framing : Framing) (form : Form) (limit : ℕ) (d : Decoder) (head kept : List ℕ)
    → Holds framing d [] [] → d.form ≡ form → d.limit ≡ limit
    → OnWay framing form limit d head kept [] [] head kept
begins framing form limit d head kept holds form_is limit_is = record {
  taken = [];
  passed = [];
  form_is = form_is;
  limit_is = limit_is;
  holds = holds;
  bytes = append-nil kept;
  sends = sym (append-nil head);
  turns = inl refl;
}

-- more was sent
in_turn_more : (framing : Framing) (form : Form) (limit : ℕ) (head kept : List ℕ)
    (pieces : List (List ℕ)) (sent more : List ℕ) → InTurn framing form limit head kept pieces sent
    → InTurn framing form limit head kept pieces (sent ++ more)
in_turn_more framing form limit head kept pieces sent more (inl none) = inl none
in_turn_more framing form limit head kept pieces sent more (inr p) = inr (record {
  before = p.before;
  last = p.last;
  whole = p.whole;
  short = p.short;
  taken = p.taken;
  passed = p.passed;
  count = p.count;
  waiting = p.waiting;
  bytes = p.bytes;
  open_ = p.open_;
  more = p.more ++ more;
  went = ap (λ xs. xs ++ more) p.went ∙ append_assoc (head ++ p.passed) p.more more;
})

some_is : (a b : Result ℕ BodyEnd) → Some a ≡ Some b → a ≡ b
some_is a b same = cc

-- a turn, whatever it came to
module _ (framing : Framing) (form : Form) (limit : ℕ) (d0 d1 : Decoder) (head kept : List ℕ)
    (pieces : List (List ℕ)) (sent waiting rest0 rest1 now : List ℕ)
    (way : OnWay framing form limit d0 head kept pieces sent waiting rest0) where
  turn_bytes : (took : List ℕ) → rest0 ≡ took ++ rest1
      → kept ++ concat pieces ≡ (way.taken ++ took) ++ rest1
  turn_bytes took is =
      way.bytes ∙ ap (λ xs. way.taken ++ xs) is ∙ sym (append_assoc way.taken took rest1)

  turn_sends : (put : List ℕ) → now ≡ waiting ++ put → sent ++ now ≡ head ++ (way.passed ++ put)
  turn_sends put is =
      ap (λ xs. sent ++ xs) is ∙ sym (append_assoc sent waiting put)
      ∙ ap (λ xs. xs ++ put) way.sends ∙ append_assoc head way.passed put

  turn_front : (put : List ℕ) → IsFrontOf (waiting ++ put) now
      → IsFrontOf (head ++ (way.passed ++ put)) (sent ++ now)
  turn_front put front = (
    front.0,
    append_assoc sent now front.0 ∙ ap (λ xs. sent ++ xs) front.1
        ∙ sym (append_assoc sent waiting put) ∙ ap (λ xs. xs ++ put) way.sends
        ∙ append_assoc head way.passed put,
  )

  -- that wants more
  pub turned_on : Turns d0 d1 rest0 rest1 waiting now (Ok More)
      → OnWay framing form limit d1 head kept pieces (sent ++ now) [] rest1
  turned_on t = record {
    taken = way.taken ++ t.took;
    passed = way.passed ++ t.put;
    form_is = t.goes.form ∙ way.form_is;
    limit_is = t.goes.limit ∙ way.limit_is;
    holds = t.goes.holds framing way.taken way.passed way.holds;
    bytes = turn_bytes t.took t.kept;
    sends = append-nil (sent ++ now) ∙ turn_sends t.put t.sends.0;
    turns = in_turn_more framing form limit head kept pieces sent now way.turns;
  }

  -- that has an answer
  ended_as : (turn : Result StopCause TurnFault) (result : Result ℕ BodyEnd)
      → (t : Turns d0 d1 rest0 rest1 waiting now turn)
      → IsSent (head ++ (way.passed ++ t.put)) (sent ++ now) result
      → Ends framing form limit (way.taken ++ t.took) (way.passed ++ t.put) d1.count rest1 result
      → PassesOn framing form limit head kept pieces (sent ++ now) rest1 d1.count result
  ended_as turn result t sends ends = record {
    taken = way.taken ++ t.took;
    passed = way.passed ++ t.put;
    bytes = turn_bytes t.took t.kept;
    within = let w = d1.within in let limit_is = t.goes.limit ∙ way.limit_is in omega arith;
    sends = sends;
    ends = ends;
    in_turn = in_turn_more framing form limit head kept pieces sent now way.turns;
  }

  holds_now : (turn : Result StopCause TurnFault) → (t : Turns d0 d1 rest0 rest1 waiting now turn)
      → Holds framing d1 (way.taken ++ t.took) (way.passed ++ t.put)
  holds_now turn t = t.goes.holds framing way.taken way.passed way.holds

  at_form : (P : Form → ℕ → Type 0) (turn : Result StopCause TurnFault)
      → (t : Turns d0 d1 rest0 rest1 waiting now turn) → P d1.form d1.limit → P form limit
  at_form P turn t p =
      subst (λ (f : Form). P f limit) (t.goes.form ∙ way.form_is)
      (subst (λ (n : ℕ). P d1.form n) (t.goes.limit ∙ way.limit_is) p)

  front_now : (turn : Result StopCause TurnFault) → (t : Turns d0 d1 rest0 rest1 waiting now turn)
      → IsFrontBody framing form limit (way.taken ++ t.took) (way.passed ++ t.put) d1.count
  front_now turn t =
      at_form (λ f n. IsFrontBody framing f n (way.taken ++ t.took) (way.passed ++ t.put) d1.count)
      turn t
      (front_body framing d1 (way.taken ++ t.took) (way.passed ++ t.put) (holds_now turn t))

  -- `fault` is an end at which a front was sent, and which says that a front of the body was taken
  pub answered : (fault : BodyEnd) (turn : Result StopCause TurnFault) (result : Result ℕ BodyEnd)
      → ((all went : List ℕ) → IsFrontOf all went → IsSent all went (Err fault))
      → ((taken passed rest : List ℕ) → IsFrontBody framing form limit taken passed d1.count
      → Ends framing form limit taken passed d1.count rest (Err fault))
      → Turns d0 d1 rest0 rest1 waiting now turn → answer_of d1.count fault turn ≡ Some result
      → PassesOn framing form limit head kept pieces (sent ++ now) rest1 d1.count result
  answered fault (Ok More) result front says t is = cc
  answered fault (Ok Whole) result front says t is =
      subst (PassesOn framing form limit head kept pieces (sent ++ now) rest1 d1.count)
      (some_is _ result is)
      (ended_as (Ok Whole) (Ok d1.count) t (turn_sends t.put t.sends.0)
      (at_form (λ f n. Ends framing f n (way.taken ++ t.took) (way.passed ++ t.put) d1.count rest1
      (Ok d1.count)) (Ok Whole) t (
        refl,
        t.sends.1.shows framing (way.taken ++ t.took) (way.passed ++ t.put)
            (holds_now (Ok Whole) t),
      )))
  answered fault (Ok Bad) result front says t is =
      subst (PassesOn framing form limit head kept pieces (sent ++ now) rest1 d1.count)
      (some_is _ result is)
      (ended_as (Ok Bad) (Err (BodyEnd.BadChunk d1.count)) t (turn_sends t.put t.sends.0)
      (at_form (λ f n. Ends framing f n (way.taken ++ t.took) (way.passed ++ t.put) d1.count rest1
      (Err (BodyEnd.BadChunk d1.count))) (Ok Bad) t (
        refl,
        t.sends.1.shows framing (way.taken ++ t.took) (way.passed ++ t.put)
            (holds_now (Ok Bad) t),
      )))
  answered fault (Ok TooLong) result front says t is =
      subst (PassesOn framing form limit head kept pieces (sent ++ now) rest1 d1.count)
      (some_is _ result is)
      (ended_as (Ok TooLong) (Err BodyEnd.TooLong) t (turn_sends t.put t.sends.0)
      (at_form (λ f n. Ends framing f n (way.taken ++ t.took) (way.passed ++ t.put) d1.count rest1
      (Err BodyEnd.TooLong)) (Ok TooLong) t
      (t.sends.1.shows framing (way.taken ++ t.took) (way.passed ++ t.put)
      (holds_now (Ok TooLong) t))))
  answered fault (Err TurnFault.Failed) result front says t is =
      subst (PassesOn framing form limit head kept pieces (sent ++ now) rest1 d1.count)
      (some_is _ result is)
      (ended_as (Err TurnFault.Failed) (Err fault) t (front _ _ (turn_front t.put t.sends))
      (says (way.taken ++ t.took) (way.passed ++ t.put) rest1 (front_now (Err TurnFault.Failed) t)))
  answered fault (Err TurnFault.OutOfMemory) result front says t is =
      subst (PassesOn framing form limit head kept pieces (sent ++ now) rest1 d1.count)
      (some_is _ result is)
      (ended_as (Err TurnFault.OutOfMemory) (Err BodyEnd.OutOfMemory) t (turn_front t.put t.sends)
      (front_now (Err TurnFault.OutOfMemory) t))

-- a body that is whole whatever follows does not run to the end of the connection
not_to_end : (p : Place) (framing : Framing) (d : Decoder) (taken passed : List ℕ) → CanEnd p
    → HoldsAt p framing d taken passed → runs_to_end framing ≡ false
not_to_end (Place.Counted left) Nothing d taken passed can h = refl
not_to_end (Place.Counted left) (Length n) d taken passed can h = refl
not_to_end (Place.Counted left) Chunked d taken passed can h = refl
not_to_end (Place.Counted left) ToEnd d taken passed can h = absurd h.0
not_to_end Place.Whole framing d taken passed can h = ap runs_to_end h.0
not_to_end (Place.ToEnd left) framing d taken passed can h = absurd can
not_to_end (Place.Content left) framing d taken passed can h = absurd can
not_to_end Place.Line framing d taken passed can h = absurd can
not_to_end (Place.Trailers at seen) framing d taken passed can h = absurd can
not_to_end Place.LongLength framing d taken passed can h = absurd can
not_to_end Place.LongChunk framing d taken passed can h = absurd can

pub whole_not_to_end : (framing : Framing) (d : Decoder) (taken passed rest : List ℕ)
    → Holds framing d taken passed → Stops d rest Whole → runs_to_end framing ≡ false
whole_not_to_end framing d taken passed rest holds stops =
    not_to_end d.place framing d taken passed stops.waits holds

-- a turn's answer is no end of the connection
pub answer_not_at_end : (framing : Framing) (form : Form) (limit : ℕ) (d0 d1 : Decoder)
    (head kept : List ℕ) (pieces : List (List ℕ))
    (sent waiting rest0 rest1 now : List ℕ) (fault : BodyEnd) (turn : Result StopCause TurnFault)
    (result : Result ℕ BodyEnd)
    → OnWay framing form limit d0 head kept pieces sent waiting rest0
    → is_at_end framing (Err fault) ≡ false
    → Turns d0 d1 rest0 rest1 waiting now turn → answer_of d1.count fault turn ≡ Some result
    → is_at_end framing result ≡ false
answer_not_at_end framing form limit d0 d1 head kept pieces sent waiting rest0 rest1 now fault
    (Ok More) result way quiet t is = cc
answer_not_at_end framing form limit d0 d1 head kept pieces sent waiting rest0 rest1 now fault
    (Ok Whole) result way quiet t is =
    subst (λ (r : Result ℕ BodyEnd). is_at_end framing r ≡ false) (some_is (Ok d1.count) result is)
    (whole_not_to_end framing d1 (way.taken ++ t.took) (way.passed ++ t.put) rest1
    (t.goes.holds framing way.taken way.passed way.holds) t.sends.1)
answer_not_at_end framing form limit d0 d1 head kept pieces sent waiting rest0 rest1 now fault
    (Ok Bad) result way quiet t is =
    subst (λ (r : Result ℕ BodyEnd). is_at_end framing r ≡ false)
    (some_is (Err (BodyEnd.BadChunk d1.count)) result is) refl
answer_not_at_end framing form limit d0 d1 head kept pieces sent waiting rest0 rest1 now fault
    (Ok TooLong) result way quiet t is =
    subst (λ (r : Result ℕ BodyEnd). is_at_end framing r ≡ false)
    (some_is (Err BodyEnd.TooLong) result is) refl
answer_not_at_end framing form limit d0 d1 head kept pieces sent waiting rest0 rest1 now fault
    (Err TurnFault.Failed) result way quiet t is =
    subst (λ (r : Result ℕ BodyEnd). is_at_end framing r ≡ false) (some_is (Err fault) result is)
    quiet
answer_not_at_end framing form limit d0 d1 head kept pieces sent waiting rest0 rest1 now fault
    (Err TurnFault.OutOfMemory) result way quiet t is =
    subst (λ (r : Result ℕ BodyEnd). is_at_end framing r ≡ false)
    (some_is (Err BodyEnd.OutOfMemory) result is) refl

-- no answer: more bytes are wanted
pub no_answer : (count : ℕ) (fault : BodyEnd) (turn : Result StopCause TurnFault)
    → answer_of count fault turn ≡ None → turn ≡ Ok More
no_answer count fault (Ok More) is = refl
no_answer count fault (Ok Whole) is = cc
no_answer count fault (Ok Bad) is = cc
no_answer count fault (Ok TooLong) is = cc
no_answer count fault (Err TurnFault.Failed) is = cc
no_answer count fault (Err TurnFault.OutOfMemory) is = cc

-- where more is wanted and nothing waits
module _ (framing : Framing) (form : Form) (limit : ℕ) (d : Decoder) (head kept : List ℕ)
    (pieces : List (List ℕ)) (sent rest : List ℕ)
    (way : OnWay framing form limit d head kept pieces sent [] rest) (stops : Stops d rest More)
  where
    all_went : sent ≡ head ++ way.passed
    all_went = sym (append-nil sent) ∙ way.sends

    unfinished : IsUnfinished framing form limit way.taken way.passed d.count rest
    unfinished =
        subst (λ (f : Form). IsUnfinished framing f limit way.taken way.passed d.count rest)
        way.form_is
        (subst (λ (n : ℕ). IsUnfinished framing d.form n way.taken way.passed d.count rest)
        way.limit_is (stops.shows framing way.taken way.passed way.holds))

    came : (piece : List ℕ) → kept ++ concat (pieces ++ piece ∷ []) ≡ way.taken ++ (rest ++ piece)
    came piece =
        ap (λ xs. kept ++ xs) (concat-append pieces (piece ∷ [])
        ∙ ap (λ xs. concat pieces ++ xs) (append-nil piece))
        ∙ sym (append_assoc kept (concat pieces) piece) ∙ ap (λ xs. xs ++ piece) way.bytes
        ∙ append_assoc way.taken rest piece

    last_piece : (piece : List ℕ) → length piece ≤ most_piece
        → LastPiece framing form limit head kept (pieces ++ piece ∷ []) sent
    last_piece piece short = record {
      before = pieces;
      last = piece;
      whole = refl;
      short = short;
      taken = way.taken;
      passed = way.passed;
      count = d.count;
      waiting = rest;
      bytes = way.bytes;
      open_ = unfinished;
      more = [];
      went = all_went ∙ sym (append-nil (head ++ way.passed));
    }

    -- a piece came
    pub piece_came : (piece rest1 : List ℕ) → length piece ≤ most_piece → rest1 ≡ rest ++ piece
        → OnWay framing form limit d head kept (pieces ++ piece ∷ []) sent [] rest1
    piece_came piece rest1 short is = record {
      taken = way.taken;
      passed = way.passed;
      form_is = way.form_is;
      limit_is = way.limit_is;
      holds = way.holds;
      bytes = came piece ∙ ap (λ xs. way.taken ++ xs) (sym is);
      sends = way.sends;
      turns = inr (last_piece piece short);
    }

    ended_here : (result : Result ℕ BodyEnd) (rest1 : List ℕ) (more : List (List ℕ))
        → kept ++ concat more ≡ way.taken ++ rest1
        → IsSent (head ++ way.passed) sent result
        → Ends framing form limit way.taken way.passed d.count rest1 result
        → InTurn framing form limit head kept more sent
        → PassesOn framing form limit head kept more sent rest1 d.count result
    ended_here result rest1 more bytes sends ends turns = record {
      taken = way.taken;
      passed = way.passed;
      bytes = bytes;
      within = let w = d.within in let limit_is = way.limit_is in omega arith;
      sends = sends;
      ends = ends;
      in_turn = turns;
    }

    -- none did, since there was a fault
    pub no_piece : (rest1 : List ℕ) → rest1 ≡ rest
        → PassesOn framing form limit head kept pieces sent rest1 d.count (Err BodyEnd.ReadFault)
        × PassesOn framing form limit head kept pieces sent rest1 d.count (Err BodyEnd.RecvFault)
    no_piece rest1 is = (
      subst (λ (xs : List ℕ). PassesOn framing form limit head kept pieces sent xs d.count
          (Err BodyEnd.ReadFault)) (sym is)
          (ended_here (Err BodyEnd.ReadFault) rest pieces way.bytes all_went unfinished way.turns),
      subst (λ (xs : List ℕ). PassesOn framing form limit head kept pieces sent xs d.count
          (Err BodyEnd.RecvFault)) (sym is)
          (ended_here (Err BodyEnd.RecvFault) rest pieces way.bytes all_went unfinished way.turns),
    )

    -- the end came
    pub end_came : (piece rest1 : List ℕ) → length piece ≡ 0 → rest1 ≡ rest ++ piece
        → PassesOn framing form limit head kept (pieces ++ piece ∷ []) sent rest1 d.count
        (end_answer framing d.count)
    end_came piece rest1 none is =
        let same : rest1 ≡ rest = is ∙ ap (λ xs. rest ++ xs) (no_bytes piece none) ∙ append-nil rest
        in
        ended_here (end_answer framing d.count) rest1 (pieces ++ piece ∷ [])
        (came piece ∙ ap (λ xs. way.taken ++ xs) (sym is))
        (all_at_end framing all_went)
        (ends_at framing (subst
        (λ (xs : List ℕ). IsUnfinished framing form limit way.taken way.passed d.count xs)
        (sym same) unfinished))
        (inr (last_piece piece (omega arith)))
      where
        all_at_end : (f : Framing) → sent ≡ head ++ way.passed
            → IsSent (head ++ way.passed) sent (end_answer f d.count)
        all_at_end Nothing went = went
        all_at_end (Length n) went = went
        all_at_end Chunked went = went
        all_at_end ToEnd went = went

        ends_at : (f : Framing) → IsUnfinished f form limit way.taken way.passed d.count rest1
            → Ends f form limit way.taken way.passed d.count rest1 (end_answer f d.count)
        ends_at Nothing u = absurd u
        ends_at (Length n) u = (λ e. cc, u)
        ends_at Chunked u = (λ e. cc, u)
        ends_at ToEnd u = (refl, u)

-- a turn that wants more, and then a read or a receive
module _ (framing : Framing) (form : Form) (limit : ℕ) (d0 d1 : Decoder) (head kept : List ℕ)
    (pieces : List (List ℕ)) (sent waiting rest0 rest1 now : List ℕ)
    (turn : Result StopCause TurnFault)
    (way : OnWay framing form limit d0 head kept pieces sent waiting rest0)
    (turns : Turns d0 d1 rest0 rest1 waiting now turn)
    (more : turn ≡ Ok More) where
  wanting : Turns d0 d1 rest0 rest1 waiting now (Ok More)
  wanting =
      subst (λ (t : Result StopCause TurnFault). Turns d0 d1 rest0 rest1 waiting now t) more turns

  way_on : OnWay framing form limit d1 head kept pieces (sent ++ now) [] rest1
  way_on =
      turned_on framing form limit d0 d1 head kept pieces sent waiting rest0 rest1 now way wanting

  pub on_piece : (out piece rest2 : List ℕ) → out ≡ [] → rest2 ≡ rest1 ++ piece
      → length rest2 ≤ most_piece
      → OnWay framing form limit d1 head kept (pieces ++ piece ∷ []) (sent ++ now) out rest2
  on_piece out piece rest2 none is short =
      let long : length rest2 ≡ length rest1 + length piece = ap length is
      ∙ length-append rest1 piece in
      subst (λ (xs : List ℕ). OnWay framing form limit d1 head kept (pieces ++ piece ∷ [])
      (sent ++ now) xs rest2) (sym none)
      (piece_came framing form limit d1 head kept pieces (sent ++ now) rest1 way_on wanting.sends.1
      piece rest2 (omega arith) is)

  pub on_end : (piece rest2 : List ℕ) (result : Result ℕ BodyEnd) → length piece ≡ 0
      → rest2 ≡ rest1 ++ piece → result ≡ end_answer framing d1.count
      → PassesOn framing form limit head kept (pieces ++ piece ∷ []) (sent ++ now) rest2 d1.count
      result
  on_end piece rest2 result none is answer =
      subst (PassesOn framing form limit head kept (pieces ++ piece ∷ []) (sent ++ now) rest2
      d1.count) (sym answer)
      (end_came framing form limit d1 head kept pieces (sent ++ now) rest1 way_on wanting.sends.1
      piece rest2 none is)

  pub on_fault : (rest2 : List ℕ) → rest2 ≡ rest1
      → PassesOn framing form limit head kept pieces (sent ++ now) rest2 d1.count
      (Err BodyEnd.ReadFault)
      × PassesOn framing form limit head kept pieces (sent ++ now) rest2 d1.count
      (Err BodyEnd.RecvFault)
  on_fault rest2 is =
      no_piece framing form limit d1 head kept pieces (sent ++ now) rest1 way_on wanting.sends.1
      rest2 is

  pub on_no_fault : turn ≢ Err TurnFault.Failed
  on_no_fault failed = cc

-- where a turn wants more, more may come
pub turn_waits : (d0 d1 : Decoder) (rest0 rest1 waiting now : List ℕ)
    (turn : Result StopCause TurnFault)
    → Turns d0 d1 rest0 rest1 waiting now turn → turn ≡ Ok More → length rest1 < most_left d1
turn_waits d0 d1 rest0 rest1 waiting now turn t more =
    let sends : TurnSends (waiting ++ t.put) now d1 rest1 (Ok More) =
    subst (λ (r : Result StopCause TurnFault). TurnSends (waiting ++ t.put) now d1 rest1 r) more
    t.sends in
    sends.1.waits.1

-- the bytes of one turn are fewer than those that may come
pub turn_smaller : (d0 d1 : Decoder) (rest0 rest1 waiting now : List ℕ)
    (turn : Result StopCause TurnFault) (piece rest2 : List ℕ)
    → Turns d0 d1 rest0 rest1 waiting now turn → length rest1 < most_left d1 → 0 < length piece
    → rest2 ≡ rest1 ++ piece
    → most_left d1 - length rest2 < most_left d0 - length rest0
turn_smaller d0 d1 rest0 rest1 waiting now turn piece rest2 t less some is =
    let lean = t.goes.lean in
    let long : length rest0 ≡ length t.took + length rest1 = ap length t.kept
    ∙ length-append t.took rest1 in
    let longer : length rest2 ≡ length rest1 + length piece = ap length is
    ∙ length-append rest1 piece in
    omega arith
