-- Which faults an answer tells of.
use Rattle.std.proofs.Common.{◌≡◌, ◌≢◌, ℕ, Bool, true, false, refl, sym, ap, ◌∙◌, Some, Result, Ok}
use Rattle.std.proofs.Common.{Err}
use Rattle.line_base.specs.Counts.{raised}
use Rattle.http_wire.specs.declared.frames.Framing.{Framing}
use Rattle.http_wire.specs.declared.frames.Framing.TheVariants.{Nothing, Length, Chunked, ToEnd}
use Rattle.body_wire.specs.declared.decoder.StopCause.{StopCause}
use Rattle.body_wire.specs.declared.decoder.StopCause.TheVariants.{More, Whole, Bad, TooLong}
use Rattle.body_wire.specs.declared.end.BodyEnd.{BodyEnd}
use Rattle.body_wire.specs.declared.turn.TurnFault.{TurnFault}
use Rattle.body_wire.specs.Passing.{RaisedAt}
use Rattle.body_wire.specs.Turns.{TurnCause, answer_of, end_answer}

-- whether an end is a call's that failed
abbrev is_fault : BodyEnd → Bool
is_fault (BodyEnd.BadChunk n) = false
is_fault BodyEnd.Cut = false
is_fault BodyEnd.TooLong = false
is_fault BodyEnd.ReadFault = true
is_fault BodyEnd.WriteFault = true
is_fault BodyEnd.SendFault = true
is_fault BodyEnd.RecvFault = true
is_fault BodyEnd.OutOfMemory = false

apart : (end fault : BodyEnd) → is_fault fault ≡ true → is_fault end ≡ false → fault ≡ end → ⊥
apart end fault real none same = let clash : true ≡ false = sym real ∙ (ap is_fault same ∙ none) in
    cc

-- a turn's answer tells of no fault but that of its own calls
pub answers_none : (count : ℕ) (fault other : BodyEnd) (turn : Result StopCause TurnFault)
    (result : Result ℕ BodyEnd) → answer_of count fault turn ≡ Some result
    → is_fault other ≡ true → other ≢ fault → result ≢ Err other
answers_none count fault other (Ok More) result is real differs at = cc
answers_none count fault other (Ok Whole) result is real differs at = cc
answers_none count fault other (Ok Bad) result is real differs at =
    apart (BodyEnd.BadChunk count) other real refl (cc)
answers_none count fault other (Ok TooLong) result is real differs at =
    apart BodyEnd.TooLong other real refl (cc)
answers_none count fault other (Err TurnFault.Failed) result is real differs at = differs (cc)
answers_none count fault other (Err TurnFault.OutOfMemory) result is real differs at =
    apart BodyEnd.OutOfMemory other real refl (cc)

-- and of that where it came
pub answers_own : (count : ℕ) (fault : BodyEnd) (turn : Result StopCause TurnFault)
    (result : Result ℕ BodyEnd) (start before now : ℕ) → answer_of count fault turn ≡ Some result
    → is_fault fault ≡ true → before ≡ start → TurnCause before now turn
    → RaisedAt (Err fault) start now result
answers_own count fault (Ok More) result start before now is real same cause = absurd (cc)
answers_own count fault (Ok Whole) result start before now is real same cause = record {
  here = λ at. absurd (cc);
  others = λ other. cause.others (λ failed. cc) ∙ same;
}
answers_own count fault (Ok Bad) result start before now is real same cause = record {
  here = λ at. absurd (apart (BodyEnd.BadChunk count) fault real refl (cc));
  others = λ other. cause.others (λ failed. cc) ∙ same;
}
answers_own count fault (Ok TooLong) result start before now is real same cause = record {
  here = λ at. absurd (apart BodyEnd.TooLong fault real refl (cc));
  others = λ other. cause.others (λ failed. cc) ∙ same;
}
answers_own count fault (Err TurnFault.Failed) result start before now is real same cause = record {
  here = λ at. cause.failed refl ∙ ap raised same;
  others = λ other. absurd (other (cc));
}
answers_own count fault (Err TurnFault.OutOfMemory) result start before now is real same cause =
    record {
      here = λ at. absurd (apart BodyEnd.OutOfMemory fault real refl (cc));
      others = λ other. cause.others (λ failed. cc) ∙ same;
    }

-- the end of a connection tells of none
pub ends_with_none : (framing : Framing) (count : ℕ) (fault : BodyEnd) (result : Result ℕ BodyEnd)
    → result ≡ end_answer framing count → is_fault fault ≡ true → result ≢ Err fault
ends_with_none Nothing count fault result is real at = apart BodyEnd.Cut fault real refl (cc)
ends_with_none (Length n) count fault result is real at = apart BodyEnd.Cut fault real refl (cc)
ends_with_none Chunked count fault result is real at = apart BodyEnd.Cut fault real refl (cc)
ends_with_none ToEnd count fault result is real at = cc
