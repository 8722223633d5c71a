-- The final head of a reply, behind those of interim replies (RFC 9110 section 15.2).
use Rattle.std.specs.Prelude.{◌≡◌, ◌⊎◌, ℕ, zero, suc, ◌≤◌, ◌==◌, nat_le, ◌&&◌, ◌||◌, Bool, true}
use Rattle.std.specs.Prelude.{false, List, [], ◌++◌, length, Result, Ok, Err, IsErr}
use Rattle.http_wire.specs.declared.frames.Framing.{Framing}
use Rattle.http_wire.specs.declared.head.ReplyHead.{ReplyHead}
use Rattle.http_wire.specs.declared.reading.HeadEnd.{HeadEnd}
use Rattle.http_wire.specs.Framing.{framing_of, reply_framing_of}
use Rattle.http_wire.specs.Reading.{is_fault, raised_at}
use Rattle.http_wire.specs.ReplyReading.{AnswersReply, EndsAtEnd, IsPromptReply, joined}
use Rattle.replica_try.specs.declared.final_head.HeadFault.{HeadFault}

-- the head of an interim reply that is dropped: 100, and 102 to 199. 101 asks for another protocol
abbrev pub is_interim : ℕ → Bool
is_interim status = (status == 100) || (nat_le 102 status && nat_le status 199)

-- where the answer says that the end came, the last piece was that of the end
abbrev pub EndsPieces : List (List ℕ) → Result ReplyHead HeadEnd → Type 0
EndsPieces pieces (Ok head) = Unit {0}
EndsPieces pieces (Err HeadEnd.Ended) = EndsAtEnd pieces
EndsPieces pieces (Err HeadEnd.Cut) = EndsAtEnd pieces
EndsPieces pieces (Err HeadEnd.Bad) = Unit {0}
EndsPieces pieces (Err HeadEnd.Version) = Unit {0}
EndsPieces pieces (Err HeadEnd.TooLarge) = Unit {0}
EndsPieces pieces (Err HeadEnd.ReadFault) = Unit {0}
EndsPieces pieces (Err HeadEnd.OutOfMemory) = Unit {0}

-- these pieces were got behind the bytes that were kept, and show this; no more was received than
-- was needed
pub record Shows
    (kept kept_after : List ℕ) (pieces : List (List ℕ)) (result : Result ReplyHead HeadEnd)
    : Type 0 where
  pub prompt : IsPromptReply kept pieces
  pub answers : AnswersReply (kept ++ joined pieces) kept_after result
  pub end : EndsPieces pieces result

-- the heads of so many interim replies
abbrev pub Interims : ℕ → List ℕ → List ℕ → List (List ℕ) → Type 0
Interims zero kept kept_after pieces = (kept_after ≡ kept) × (pieces ≡ [])
Interims (suc n) kept kept_after pieces =
    (mid : List ℕ) × (before : List (List ℕ)) × (last : List (List ℕ)) × (head : ReplyHead)
    × Interims n kept mid before × Shows mid kept_after last (Ok head)
    × (is_interim head.status ≡ true) × (pieces ≡ before ++ last)

-- the most heads that are dropped
abbrev pub most_interims : ℕ
most_interims = 8

-- what a head behind so many interim ones is: the final one, unless it asks for another protocol,
-- is one interim head too many, or is that of no interim reply and frames no body. How an interim
-- head would frame a body is not looked at
abbrev pub HeadDecides : List ℕ → ℕ → ReplyHead → Result (ReplyHead × Framing) HeadFault → Type 0
HeadDecides method n head (Ok final) =
    (final.0 ≡ head) × (is_interim head.status ≡ false) × ((head.status == 101) ≡ false)
    × (reply_framing_of method head.status (framing_of head.version head.fields) ≡ Ok final.1)
HeadDecides method n head (Err HeadFault.NoReply) =
    ((head.status == 101) ≡ true)
    ⊎ (((is_interim head.status ≡ true) × (n ≡ most_interims))
    ⊎ ((is_interim head.status ≡ false) × IsErr
    (reply_framing_of method head.status (framing_of head.version head.fields))))
HeadDecides method n head (Err HeadFault.Silent) = ⊥
HeadDecides method n head (Err HeadFault.OutOfMemory) = ⊥

-- bytes that begin no head, a head that is too long, an early end and a failed receive are no
-- reply. Where there was no byte either, it is silence
abbrev pub no_reply : Bool → HeadFault
no_reply true = HeadFault.Silent
no_reply false = HeadFault.NoReply

abbrev pub fault_of : Bool → HeadEnd → HeadFault
fault_of nothing HeadEnd.Ended = no_reply nothing
fault_of nothing HeadEnd.Cut = no_reply nothing
fault_of nothing HeadEnd.Bad = no_reply nothing
fault_of nothing HeadEnd.Version = no_reply nothing
fault_of nothing HeadEnd.TooLarge = no_reply nothing
fault_of nothing HeadEnd.ReadFault = no_reply nothing
fault_of nothing HeadEnd.OutOfMemory = HeadFault.OutOfMemory

-- no byte was received: no interim head, and nothing is left
abbrev pub is_nothing : ℕ → List ℕ → Bool
is_nothing interims left = (interims == 0) && (length left == 0)

-- what the last head that was received decides, behind which these bytes are left
abbrev pub Decides : List ℕ → ℕ → List ℕ → Result ReplyHead HeadEnd
    → Result (ReplyHead × Framing) HeadFault → Type 0
Decides method n left (Ok head) result = HeadDecides method n head result
Decides method n left (Err end) result = result ≡ Err (fault_of (is_nothing n left) end)

-- the pieces that were got for a final head: those of at most eight interim heads, and those behind
-- that decide. The dialer's count of faults rose by one where the last receive failed, and no
-- receive is tried again
pub record Hears
    (method kept kept_after : List ℕ) (pieces : List (List ℕ)) (faults faults_now : ℕ)
    (result : Result (ReplyHead × Framing) HeadFault)
    : Type 0 where
  pub interims : ℕ
  pub few : interims ≤ most_interims
  pub mid : List ℕ
  pub before : List (List ℕ)
  pub last : List (List ℕ)
  pub shown : Result ReplyHead HeadEnd
  pub dropped : Interims interims kept mid before
  pub shows : Shows mid kept_after last shown
  pub decides : Decides method interims kept_after shown result
  pub causes : faults_now ≡ raised_at (is_fault shown) faults
  pub whole : pieces ≡ before ++ last
  pub later : faults ≤ faults_now
