-- How turns add up to a body that is read.
use Rattle.std.proofs.Common.{◌≡◌, ℕ, ◌+◌, ◌-◌, ◌<◌, ◌≤◌, List, [], ◌++◌, length, refl, sym, ap}
use Rattle.std.proofs.Common.{◌∙◌, subst, arith, append_assoc, append-nil, length-append, Result}
use Rattle.std.proofs.Common.{Ok, Err, Vec, Global, inl, inr}
use Rattle.http_wire.specs.declared.frames.Framing.{Framing}
use Rattle.http_wire.specs.declared.frames.Framing.TheVariants.{Nothing, Length, Chunked, ToEnd}
use Rattle.body_wire.specs.declared.decoder.Decoder.{Decoder}
use Rattle.body_wire.specs.declared.decoder.StopCause.TheVariants.{More, Whole, Bad, TooLong}
use Rattle.body_wire.specs.declared.end.BodyEnd.{BodyEnd}
use Rattle.body_wire.specs.declared.form.Form.{Form}
use Rattle.body_wire.specs.Bodies.{IsWholeBody, IsUnfinished, IsBadBody, IsTooLong, IsFrontBody}
use Rattle.body_wire.specs.Passing.{most_piece, most_read, IsPrompt, ReadEnds, ReadsBody}
use Rattle.body_wire.specs.Stands.{Holds, Stops, most_left}
use Rattle.body_wire.specs.Turns.{Taken, read_at_end}
use Rattle.body_wire.proofs.Fronts.{front_body}
use Rattle.body_wire.proofs.Stopping.{no_bytes}

-- the content of the bytes that were taken so far
pub record Reads (framing : Framing) (d : Decoder) (kept came content rest : List ℕ) : Type 0 where
  pub taken : List ℕ
  pub form_is : d.form ≡ Form.Content
  pub limit_is : d.limit ≡ most_read
  pub holds : Holds framing d taken content
  pub bytes : kept ++ came ≡ taken ++ rest
  pub prompt : IsPrompt framing kept came

pub begins : (framing : Framing) (d : Decoder) (kept content : List ℕ) → Holds framing d [] []
    → d.form ≡ Form.Content → d.limit ≡ most_read → content ≡ []
    → Reads framing d kept [] content kept
begins framing d kept content holds form_is limit_is none = record {
  taken = [];
  form_is = form_is;
  limit_is = limit_is;
  holds = subst (λ (xs : List ℕ). Holds framing d [] xs) (sym none) holds;
  bytes = append-nil kept;
  prompt = inl refl;
}

pub goes_on : (framing : Framing) (d0 d1 : Decoder) (kept came c0 c1 r0 r1 : List ℕ)
    → Reads framing d0 kept came c0 r0 → Taken d0 d1 r0 r1 c0 c1
    → Reads framing d1 kept came c1 r1
goes_on framing d0 d1 kept came c0 c1 r0 r1 reads t = record {
  taken = reads.taken ++ t.took;
  form_is = t.goes.form ∙ reads.form_is;
  limit_is = t.goes.limit ∙ reads.limit_is;
  holds = subst (λ (xs : List ℕ). Holds framing d1 (reads.taken ++ t.took) xs) (sym t.out)
      (t.goes.holds framing reads.taken c0 reads.holds);
  bytes = reads.bytes ∙ ap (λ xs. reads.taken ++ xs) t.kept
      ∙ sym (append_assoc reads.taken t.took r1);
  prompt = reads.prompt;
}

module _ (framing : Framing) (d : Decoder) (kept came content rest : List ℕ)
    (reads : Reads framing d kept came content rest) where
  -- what a stop shows of the content
  pub shown : (P : Form → ℕ → Type 0) → P d.form d.limit → P Form.Content most_read
  shown P p =
      subst (λ (f : Form). P f most_read) reads.form_is
      (subst (λ (n : ℕ). P d.form n) reads.limit_is p)

  few : d.count ≤ most_read
  few = let w = d.within in let limit_is = reads.limit_is in omega arith

  ended_as : (result : Result (Vec ℕ Global) BodyEnd)
      → ReadEnds framing reads.taken content d.count rest result
      → ReadsBody framing kept came rest result
  ended_as result ends = record {
    taken = reads.taken;
    passed = content;
    count = d.count;
    bytes = reads.bytes;
    within = few;
    ends = ends;
    prompt = reads.prompt;
  }

  pub whole : (body : Vec ℕ Global) → body.items ≡ content → Stops d rest Whole
      → ReadsBody framing kept came rest (Ok body)
  whole body is stops =
      ended_as (Ok body) (
        is,
        shown (λ f n. IsWholeBody framing f reads.taken content d.count rest)
            (stops.shows framing reads.taken content reads.holds),
      )

  pub bad : Stops d rest Bad → ReadsBody framing kept came rest (Err (BodyEnd.BadChunk d.count))
  bad stops =
      ended_as (Err (BodyEnd.BadChunk d.count)) (
        refl,
        shown (λ f n. IsBadBody framing f reads.taken content d.count rest)
            (stops.shows framing reads.taken content reads.holds),
      )

  pub too_long : Stops d rest TooLong → ReadsBody framing kept came rest (Err BodyEnd.TooLong)
  too_long stops =
      ended_as (Err BodyEnd.TooLong)
      (shown (λ f n. IsTooLong framing f n reads.taken content d.count rest)
      (stops.shows framing reads.taken content reads.holds))

  pub no_memory : ReadsBody framing kept came rest (Err BodyEnd.OutOfMemory)
  no_memory =
      ended_as (Err BodyEnd.OutOfMemory)
      (shown (λ f n. IsFrontBody framing f n reads.taken content d.count)
      (front_body framing d reads.taken content reads.holds))

  unfinished : Stops d rest More
      → IsUnfinished framing Form.Content most_read reads.taken content d.count rest
  unfinished stops =
      shown (λ f n. IsUnfinished framing f n reads.taken content d.count rest)
      (stops.shows framing reads.taken content reads.holds)

  -- a piece came where more was wanted
  pub piece_came : (piece rest1 : List ℕ) → rest1 ≡ rest ++ piece → length rest1 ≤ most_piece
      → Stops d rest More → Reads framing d kept (came ++ piece) content rest1
  piece_came piece rest1 is short stops =
      let long : length rest1 ≡ length rest + length piece = ap length is ∙ length-append rest piece
      in
      record {
        taken = reads.taken;
        form_is = reads.form_is;
        limit_is = reads.limit_is;
        holds = reads.holds;
        bytes =
            sym (append_assoc kept came piece) ∙ ap (λ xs. xs ++ piece) reads.bytes
            ∙ append_assoc reads.taken rest piece ∙ ap (λ xs. reads.taken ++ xs) (sym is);
        prompt = inr (record {
          earlier = came;
          piece = piece;
          cut = refl;
          short = omega arith;
          taken = reads.taken;
          passed = content;
          count = d.count;
          waiting = rest;
          bytes = reads.bytes;
          within = few;
          open_ = unfinished stops;
        });
      }

  pub fault : (rest1 : List ℕ) → rest1 ≡ rest → Stops d rest More
      → ReadsBody framing kept came rest1 (Err BodyEnd.ReadFault)
  fault rest1 is stops =
      subst (λ (xs : List ℕ). ReadsBody framing kept came xs (Err BodyEnd.ReadFault)) (sym is)
      (ended_as (Err BodyEnd.ReadFault) (unfinished stops))

  -- the end, where the content is this
  pub at_end : (body : Vec ℕ Global) (piece rest1 : List ℕ) → body.items ≡ content
      → length piece ≡ 0 → rest1 ≡ rest ++ piece → Stops d rest More
      → ReadsBody framing kept (came ++ piece) rest1 (read_at_end framing body)
  at_end body piece rest1 is none grown stops =
      let same : rest1 ≡ rest = grown ∙ ap (λ xs. rest ++ xs) (no_bytes piece none)
      ∙ append-nil rest in
      let same_came : came ++ piece ≡ came = ap (λ xs. came ++ xs) (no_bytes piece none)
      ∙ append-nil came in
      subst (λ (xs : List ℕ). ReadsBody framing kept (came ++ piece) xs (read_at_end framing body))
      (sym same)
      (subst (λ (xs : List ℕ). ReadsBody framing kept xs rest (read_at_end framing body))
      (sym same_came)
      (ended_as (read_at_end framing body) (ends framing is (unfinished stops))))
    where
      ends : (f : Framing) → body.items ≡ content
          → IsUnfinished f Form.Content most_read reads.taken content d.count rest
          → ReadEnds f reads.taken content d.count rest (read_at_end f body)
      ends Nothing is' u = absurd u
      ends (Length n) is' u = (λ e. cc, u)
      ends Chunked is' u = (λ e. cc, u)
      ends ToEnd is' u = (is', u)

pub smaller : (d0 d1 : Decoder) (r0 r1 c0 c1 piece r2 : List ℕ) → Taken d0 d1 r0 r1 c0 c1
    → length r1 < most_left d1 → 0 < length piece → r2 ≡ r1 ++ piece
    → most_left d1 - length r2 < most_left d0 - length r0
smaller d0 d1 r0 r1 c0 c1 piece r2 t less some is =
    let lean = t.goes.lean in
    let long : length r0 ≡ length t.took + length r1 = ap length t.kept ∙ length-append t.took r1 in
    let longer : length r2 ≡ length r1 + length piece = ap length is ∙ length-append r1 piece in
    omega arith
