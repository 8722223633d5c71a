-- What one turn of passing a body on does: all that is kept goes on, as far as the decoder takes
-- it.
use Rattle.std.specs.Prelude.{◌≡◌, ◌≢◌, ℕ, List, ◌++◌, Option, Some, None, Result, Ok, Err}
use Rattle.std.specs.declared.alloc.AllocError.{AllocError}
use Rattle.std.specs.declared.alloc.Global.{Global}
use Rattle.std.specs.declared.vec.Vec.{Vec}
use Rattle.line_base.specs.Counts.{raised}
use Rattle.line_base.specs.declared.outside.Failed.{Failed}
use Rattle.http_wire.specs.declared.frames.Framing.{Framing}
use Rattle.http_wire.specs.declared.frames.Framing.TheVariants.{Nothing, Length, Chunked, ToEnd}
use Rattle.body_wire.specs.declared.decoder.Decoder.{Decoder}
use Rattle.body_wire.specs.declared.decoder.StopCause.{StopCause}
use Rattle.body_wire.specs.declared.decoder.StopCause.TheVariants.{More, Whole, Bad, TooLong}
use Rattle.body_wire.specs.declared.end.BodyEnd.{BodyEnd}
use Rattle.body_wire.specs.declared.turn.TurnFault.{TurnFault}
use Rattle.body_wire.specs.Passing.{IsFrontOf}
use Rattle.body_wire.specs.Stands.{GoesOn, Stops}

-- the decoder has taken bytes off those that were kept, and `put` goes on for them, behind what was
-- there
pub record Taken (old new : Decoder) (kept_old kept_new out_old out_new : List ℕ) : Type 0 where
  pub took : List ℕ
  pub put : List ℕ
  pub kept : kept_old ≡ took ++ kept_new
  pub out : out_new ≡ out_old ++ put
  pub goes : GoesOn old new took put

-- and stopped there, unless there was no memory
abbrev pub TakesAll : Decoder → Decoder → List ℕ → List ℕ → List ℕ → List ℕ
    → Result StopCause AllocError
    → Type 0
TakesAll old new kept_old kept_new out_old out_new (Ok stop) =
    Taken old new kept_old kept_new out_old out_new × Stops new kept_new stop
TakesAll old new kept_old kept_new out_old out_new (Err e) =
    Taken old new kept_old kept_new out_old out_new

-- all of these bytes were sent, or a front of them where sending failed
abbrev pub SendsAll : List ℕ → List ℕ → Result (Unit {0}) Failed → Type 0
SendsAll all sent (Ok x) = sent ≡ all
SendsAll all sent (Err e) = IsFrontOf all sent

-- content that was taken off the bytes that were kept goes on as it is. Where something waits
-- before it, none is
pub record RunTaken (old new : Decoder) (kept_old kept_new waiting run : List ℕ) : Type 0 where
  pub kept : kept_old ≡ run ++ kept_new
  pub goes : GoesOn old new run run
  pub alone : run ++ waiting ≡ waiting ++ run

pub record RunGoes (old new : Decoder) (kept_old kept_new waiting sent : List ℕ)
    (result : Result (Unit {0}) Failed) : Type 0 where
  pub run : List ℕ
  pub taken : RunTaken old new kept_old kept_new waiting run
  pub sends : SendsAll run sent result

-- what was sent of `waiting` and of what goes on behind it, and where the decoder stopped
abbrev pub TurnSends : List ℕ → List ℕ → Decoder → List ℕ → Result StopCause TurnFault → Type 0
TurnSends all sent new kept_new (Ok stop) = (sent ≡ all) × Stops new kept_new stop
TurnSends all sent new kept_new (Err fault) = IsFrontOf all sent

pub record Turns (old new : Decoder) (kept_old kept_new waiting sent : List ℕ)
    (result : Result StopCause TurnFault) : Type 0 where
  pub took : List ℕ
  pub put : List ℕ
  pub kept : kept_old ≡ took ++ kept_new
  pub goes : GoesOn old new took put
  pub sends : TurnSends (waiting ++ put) sent new kept_new result

-- what was sent of what goes on
abbrev pub TakenGoes : Result StopCause AllocError → List ℕ → List ℕ → Result StopCause TurnFault
    → Type 0
TakenGoes (Ok stop) all sent (Ok other) = (other ≡ stop) × (sent ≡ all)
TakenGoes (Ok stop) all sent (Err fault) = IsFrontOf all sent
TakenGoes (Err e) all sent (Ok other) = ⊥
TakenGoes (Err e) all sent (Err fault) = IsFrontOf all sent

-- a turn failed exactly where the count of faults rose
pub record TurnCause (before now : ℕ) (result : Result StopCause TurnFault) : Type 0 where
  pub failed : result ≡ Err TurnFault.Failed → now ≡ raised before
  pub others : result ≢ Err TurnFault.Failed → now ≡ before

-- what a turn answers; nothing where more bytes are wanted. `fault` is what a failed call answers
abbrev pub answer_of : ℕ → BodyEnd → Result StopCause TurnFault → Option (Result ℕ BodyEnd)
answer_of count fault (Ok More) = None
answer_of count fault (Ok Whole) = Some (Ok count)
answer_of count fault (Ok Bad) = Some (Err (BodyEnd.BadChunk count))
answer_of count fault (Ok TooLong) = Some (Err BodyEnd.TooLong)
answer_of count fault (Err TurnFault.Failed) = Some (Err fault)
answer_of count fault (Err TurnFault.OutOfMemory) = Some (Err BodyEnd.OutOfMemory)

-- what the end of the connection answers inside a body
abbrev pub end_answer : Framing → ℕ → Result ℕ BodyEnd
end_answer Nothing count = Err BodyEnd.Cut
end_answer (Length n) count = Err BodyEnd.Cut
end_answer Chunked count = Err BodyEnd.Cut
end_answer ToEnd count = Ok count

-- and where the body is read
abbrev pub read_at_end : Framing → Vec ℕ Global → Result (Vec ℕ Global) BodyEnd
read_at_end Nothing content = Err BodyEnd.Cut
read_at_end (Length n) content = Err BodyEnd.Cut
read_at_end Chunked content = Err BodyEnd.Cut
read_at_end ToEnd content = Ok content
