-- What a call that passes a body on, or reads it, answers and leaves.
use Rattle.std.specs.Prelude.{◌≡◌, ◌≢◌, ◌⊎◌, ℕ, ◌-◌, ◌^◌, ◌≤◌, Bool, true, false, List, [], ◌∷◌}
use Rattle.std.specs.Prelude.{◌++◌, length, map, Option, Some, None, Result, Ok, Err}
use Rattle.std.specs.Io.KnownBytes.{IsAtEnd}
use Rattle.std.specs.List.{concat}
use Rattle.line_base.specs.Counts.{raised}
use Rattle.line_base.specs.declared.dialer.DialEvent.{DialEvent}
use Rattle.line_base.specs.declared.dialer.DialEvent.TheVariants.{Sent, Got}
use Rattle.http_wire.specs.declared.frames.Framing.{Framing}
use Rattle.http_wire.specs.declared.frames.Framing.TheVariants.{Nothing, Length, Chunked, ToEnd}
use Rattle.body_wire.specs.declared.end.BodyEnd.{BodyEnd}
use Rattle.body_wire.specs.declared.end.BodyEnd.TheVariants.{BadChunk, Cut, TooLong, ReadFault}
use Rattle.body_wire.specs.declared.end.BodyEnd.TheVariants.{WriteFault, SendFault, RecvFault}
use Rattle.body_wire.specs.declared.end.BodyEnd.TheVariants.{OutOfMemory}
use Rattle.body_wire.specs.declared.form.Form.{Form}
use Rattle.std.specs.declared.vec.Vec.{Vec}
use Rattle.std.specs.declared.alloc.Global.{Global}
use Rattle.body_wire.specs.Bodies.{IsWholeBody, IsUnfinished, IsBadBody, IsTooLong, IsFrontBody}

-- the most content bytes of a body that is passed on
abbrev pub most_passed : ℕ
most_passed = 2 ^ 63 - 1

-- the most content bytes of a body that is read
abbrev pub most_read : ℕ
most_read = 1048576

-- the most bytes that one read or one receive gives
abbrev pub most_piece : ℕ
most_piece = 16384

-- what the bytes that were taken of a body show, at each end of a call
abbrev pub Ends : Framing → Form → ℕ → List ℕ → List ℕ → ℕ → List ℕ → Result ℕ BodyEnd → Type 0
Ends framing form limit taken passed count kept (Ok n) =
    (n ≡ count) × IsWholeBody framing form taken passed count kept
Ends framing form limit taken passed count kept (Err (BadChunk n)) =
    (n ≡ count) × IsBadBody framing form taken passed count kept
Ends framing form limit taken passed count kept (Err Cut) =
    (framing ≢ ToEnd) × IsUnfinished framing form limit taken passed count kept
Ends framing form limit taken passed count kept (Err TooLong) =
    IsTooLong framing form limit taken passed count kept
Ends framing form limit taken passed count kept (Err ReadFault) =
    IsUnfinished framing form limit taken passed count kept
Ends framing form limit taken passed count kept (Err RecvFault) =
    IsUnfinished framing form limit taken passed count kept
Ends framing form limit taken passed count kept (Err WriteFault) =
    IsFrontBody framing form limit taken passed count
Ends framing form limit taken passed count kept (Err SendFault) =
    IsFrontBody framing form limit taken passed count
Ends framing form limit taken passed count kept (Err OutOfMemory) =
    IsFrontBody framing form limit taken passed count

-- what was sent is a front of these bytes
abbrev pub IsFrontOf : List ℕ → List ℕ → Type 0
IsFrontOf all sent = (lost : List ℕ) × (sent ++ lost ≡ all)

-- what was sent, at each end: all of it, but where sending it failed
abbrev pub IsSent : List ℕ → List ℕ → Result ℕ BodyEnd → Type 0
IsSent all sent (Ok n) = sent ≡ all
IsSent all sent (Err (BadChunk n)) = sent ≡ all
IsSent all sent (Err Cut) = sent ≡ all
IsSent all sent (Err TooLong) = sent ≡ all
IsSent all sent (Err ReadFault) = sent ≡ all
IsSent all sent (Err RecvFault) = sent ≡ all
IsSent all sent (Err WriteFault) = IsFrontOf all sent
IsSent all sent (Err SendFault) = IsFrontOf all sent
IsSent all sent (Err OutOfMemory) = IsFrontOf all sent

-- the last piece that came: before it the body had not ended, and all that goes on for what had
-- come of it was sent
pub record LastPiece (framing : Framing) (form : Form) (limit : ℕ) (head kept : List ℕ)
    (pieces : List (List ℕ)) (sent : List ℕ) : Type 0 where
  pub before : List (List ℕ)
  pub last : List ℕ
  pub whole : pieces ≡ before ++ last ∷ []
  pub short : length last ≤ most_piece
  pub taken : List ℕ
  pub passed : List ℕ
  pub count : ℕ
  pub waiting : List ℕ
  pub bytes : kept ++ concat before ≡ taken ++ waiting
  pub open_ : IsUnfinished framing form limit taken passed count waiting
  pub more : List ℕ
  pub went : sent ≡ (head ++ passed) ++ more

-- pieces came one by one, each once all before it had gone on
abbrev pub InTurn : Framing → Form → ℕ → List ℕ → List ℕ → List (List ℕ) → List ℕ → Type 0
InTurn framing form limit head kept pieces sent =
    (pieces ≡ []) ⊎ LastPiece framing form limit head kept pieces sent

-- a body goes on behind `head`: `kept` are the bytes that were there, `pieces` those that came, and
-- `kept_after` those that are kept. `count` is the number of the content bytes that were taken
pub record PassesOn
    (framing : Framing) (form : Form) (limit : ℕ) (head kept : List ℕ) (pieces : List (List ℕ))
    (sent kept_after : List ℕ) (count : ℕ) (result : Result ℕ BodyEnd)
    : Type 0 where
  pub taken : List ℕ
  pub passed : List ℕ
  pub bytes : kept ++ concat pieces ≡ taken ++ kept_after
  pub within : count ≤ limit
  pub sends : IsSent (head ++ passed) sent result
  pub ends : Ends framing form limit taken passed count kept_after result
  pub in_turn : InTurn framing form limit head kept pieces sent

-- the framing is that of a body that runs to the end of the connection
abbrev pub runs_to_end : Framing → Bool
runs_to_end Nothing = false
runs_to_end (Length n) = false
runs_to_end Chunked = false
runs_to_end ToEnd = true

-- the call ended at the end of the connection
abbrev pub is_at_end : Framing → Result ℕ BodyEnd → Bool
is_at_end framing (Ok n) = runs_to_end framing
is_at_end framing (Err (BadChunk n)) = false
is_at_end framing (Err Cut) = true
is_at_end framing (Err TooLong) = false
is_at_end framing (Err ReadFault) = false
is_at_end framing (Err WriteFault) = false
is_at_end framing (Err SendFault) = false
is_at_end framing (Err RecvFault) = false
is_at_end framing (Err OutOfMemory) = false

-- the number of ends rose exactly where the call ended at one
pub record CountsEnd (framing : Framing) (before now : ℕ) (result : Result ℕ BodyEnd) : Type 0 where
  pub ended : is_at_end framing result ≡ true → now ≡ raised before
  pub others : is_at_end framing result ≡ false → now ≡ before

-- where the call ended at the end of the connection, a peer that tells its bytes has none left
abbrev pub HasNoneBehind : Framing → Option (List ℕ) → Result ℕ BodyEnd → Type 0
HasNoneBehind framing left result = is_at_end framing result ≡ true → IsAtEnd left

-- a count rose exactly where the call ended so
pub record RaisedAt (end : Result ℕ BodyEnd) (before now : ℕ) (result : Result ℕ BodyEnd) : Type 0
  where
    pub here : result ≡ end → now ≡ raised before
    pub others : result ≢ end → now ≡ before

-- a known log grows by these sends, which sent these bytes
abbrev pub Sends : Option (List DialEvent) → Option (List DialEvent) → List ℕ → Type 0
Sends None new bytes = Unit {0}
Sends (Some old) None bytes = ⊥
Sends (Some old) (Some new) bytes =
    (pieces : List (List ℕ)) × (new ≡ old ++ map Sent pieces) × (concat pieces ≡ bytes)

-- a known log grows by receives of these pieces
abbrev pub ReceivesPieces : Option (List DialEvent) → Option (List DialEvent) → List (List ℕ)
    → Type 0
ReceivesPieces None new pieces = Unit {0}
ReceivesPieces (Some old) None pieces = ⊥
ReceivesPieces (Some old) (Some new) pieces = new ≡ old ++ map Got pieces

-- where the call ended at the end of the connection, the last receive gave nothing
abbrev pub EndsPieces : Framing → List (List ℕ) → Result ℕ BodyEnd → Type 0
EndsPieces framing pieces result =
    is_at_end framing result ≡ true → (before : List (List ℕ)) × (pieces ≡ before ++ [] ∷ [])

-- how content goes back to a client: in chunks, where it knows them
abbrev pub form_of : Bool → Form
form_of true = Form.Chunks
form_of false = Form.Content

-- what a call that reads a body gives: its content, where it is whole
abbrev pub ReadEnds : Framing → List ℕ → List ℕ → ℕ → List ℕ → Result (Vec ℕ Global) BodyEnd
    → Type 0
ReadEnds framing taken passed count kept (Ok body) =
    (body.items ≡ passed) × IsWholeBody framing Form.Content taken passed count kept
ReadEnds framing taken passed count kept (Err e) =
    Ends framing Form.Content most_read taken passed count kept (Err e)

-- the last read for a body that is read: it gave a piece of at most 16,384 bytes, and began while
-- the bytes before showed a body that had not ended, within the limit by all that it announced
pub record EndsInPiece (framing : Framing) (kept came : List ℕ) : Type 0 where
  pub earlier : List ℕ
  pub piece : List ℕ
  pub cut : came ≡ earlier ++ piece
  pub short : length piece ≤ most_piece
  pub taken : List ℕ
  pub passed : List ℕ
  pub count : ℕ
  pub waiting : List ℕ
  pub bytes : kept ++ earlier ≡ taken ++ waiting
  pub within : count ≤ most_read
  pub open_ : IsUnfinished framing Form.Content most_read taken passed count waiting

-- no more was read than was needed: nothing, or a last piece behind an unfinished body
abbrev pub IsPrompt : Framing → List ℕ → List ℕ → Type 0
IsPrompt framing kept came = (came ≡ []) ⊎ EndsInPiece framing kept came

-- a body is read: `kept` are the bytes that were there, `came` those that came, and `kept_after`
-- those that are kept
pub record ReadsBody (framing : Framing) (kept came kept_after : List ℕ)
    (result : Result (Vec ℕ Global) BodyEnd) : Type 0 where
  pub taken : List ℕ
  pub passed : List ℕ
  pub count : ℕ
  pub bytes : kept ++ came ≡ taken ++ kept_after
  pub within : count ≤ most_read
  pub ends : ReadEnds framing taken passed count kept_after result
  pub prompt : IsPrompt framing kept came

-- as a count of content bytes
abbrev pub unread : Result (Vec ℕ Global) BodyEnd → Result ℕ BodyEnd
unread (Ok body) = Ok (length body.items)
unread (Err e) = Err e
