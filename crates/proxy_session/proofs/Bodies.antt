-- What goes on of a body, at each end of a call that passes it on, is of a front of it.
use Rattle.std.proofs.Common.{ℕ, Bool, ◌≤◌, List, inl, inr, Result, Ok, Err, arith}
use Rattle.http_wire.specs.declared.frames.Framing.{Framing}
use Rattle.body_wire.specs.declared.end.BodyEnd.{BodyEnd}
use Rattle.body_wire.specs.declared.end.BodyEnd.TheVariants.{BadChunk, Cut, TooLong, ReadFault}
use Rattle.body_wire.specs.declared.end.BodyEnd.TheVariants.{WriteFault, SendFault, RecvFault}
use Rattle.body_wire.specs.declared.end.BodyEnd.TheVariants.{OutOfMemory}
use Rattle.body_wire.specs.Bodies.{AreBad, AreFront, AreUnfinished, IsBadBody, IsFrontBody, IsShort}
use Rattle.body_wire.specs.Bodies.{IsTooLong, IsUnfinished, IsWholeBody}
use Rattle.body_wire.specs.Passing.{Ends, form_of}

module _ (chunked : Bool) (limit : ℕ) (taken passed : List ℕ) (count : ℕ) (within : count ≤ limit)
    (kept : List ℕ) where
  whole : (framing : Framing) → IsWholeBody framing (form_of chunked) taken passed count kept
      → IsFrontBody framing (form_of chunked) limit taken passed count
  whole Framing.Nothing is = is
  whole (Framing.Length n) (plain, all) =
      (plain, omega (arith, all), inl (omega (arith, all, within)))
  whole Framing.Chunked is = inr (inr (inr (inr is)))
  whole Framing.ToEnd is = is.0

  bad_chunks : AreBad (form_of chunked) taken passed count kept
      → AreFront (form_of chunked) limit taken passed count
  bad_chunks (inl (chunks, line)) = inl chunks
  bad_chunks (inr (inl (size, chunk, ending))) =
      inr (inl (size, size, chunk, omega arith, omega (arith, within)))
  bad_chunks (inr (inr (trailers, all, same, long))) = inr (inr (inl (trailers, all, same)))

  bad : (framing : Framing) → IsBadBody framing (form_of chunked) taken passed count kept
      → IsFrontBody framing (form_of chunked) limit taken passed count
  bad Framing.Nothing is = absurd is
  bad (Framing.Length n) is = absurd is
  bad Framing.Chunked is = bad_chunks is
  bad Framing.ToEnd is = absurd is

  short : (size got : ℕ) → IsShort size got kept → got ≤ size
  short size got (inl (less, none)) = omega (arith, less)
  short size got (inr (same, end_of)) = omega (arith, same)

  unfinished_chunks : AreUnfinished (form_of chunked) limit taken passed count kept
      → AreFront (form_of chunked) limit taken passed count
  unfinished_chunks (inl (chunks, line)) = inl chunks
  unfinished_chunks (inr (inl (size, got, chunk, wants, allowed))) =
      inr (inl (size, got, chunk, short size got wants, allowed))
  unfinished_chunks (inr (inr (trailers, all, same, few, none))) =
      inr (inr (inl (trailers, all, same)))

  unfinished : (framing : Framing) → IsUnfinished framing (form_of chunked) limit taken passed count
      kept → IsFrontBody framing (form_of chunked) limit taken passed count
  unfinished Framing.Nothing is = absurd is
  unfinished (Framing.Length n) (plain, few, none, fits) = (plain, omega (arith, few), inl fits)
  unfinished Framing.Chunked is = unfinished_chunks is
  unfinished Framing.ToEnd is = is.0

  too_long : (framing : Framing) → IsTooLong framing (form_of chunked) limit taken passed count kept
      → IsFrontBody framing (form_of chunked) limit taken passed count
  too_long Framing.Nothing is = absurd is
  too_long (Framing.Length n) (long, plain, none) = (plain, omega (arith, long, within), inr none)
  too_long Framing.Chunked is = inr (inr (inr (inl is)))
  too_long Framing.ToEnd is = is.0

  pub front_of_body : (framing : Framing) (result : Result ℕ BodyEnd)
      → Ends framing (form_of chunked) limit taken passed count kept result
      → IsFrontBody framing (form_of chunked) limit taken passed count
  front_of_body framing (Ok n) ends = whole framing ends.1
  front_of_body framing (Err (BadChunk n)) ends = bad framing ends.1
  front_of_body framing (Err Cut) ends = unfinished framing ends.1
  front_of_body framing (Err TooLong) ends = too_long framing ends
  front_of_body framing (Err ReadFault) ends = unfinished framing ends
  front_of_body framing (Err RecvFault) ends = unfinished framing ends
  front_of_body framing (Err WriteFault) ends = ends
  front_of_body framing (Err SendFault) ends = ends
  front_of_body framing (Err OutOfMemory) ends = ends
