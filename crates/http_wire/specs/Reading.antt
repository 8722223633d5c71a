-- What a call that reads a head answers, and what it leaves.
use Rattle.std.specs.Prelude.{◌≡◌, ◌≢◌, ◌<◌, ◌≤◌, ◌⊎◌, Bool, true, false, if◌then◌else◌, ℕ, List}
use Rattle.std.specs.Prelude.{[], ◌++◌, length, drop, Option, Result, Ok, Err}
use Rattle.std.specs.Io.KnownBytes.{Consumes, IsAtEnd}
use Rattle.http_wire.specs.declared.head.Head.{Head}
use Rattle.http_wire.specs.declared.seen.Seen.{Seen}
use Rattle.http_wire.specs.declared.seen.Seen.TheVariants.{Whole, Bad, Version, TooLarge, NotYet}
use Rattle.http_wire.specs.declared.reading.HeadEnd.{HeadEnd}
use Rattle.http_wire.specs.declared.reading.Turn.{Turn}
use Rattle.http_wire.specs.declared.reading.Turn.TheVariants.{Answered, More}
use Rattle.line_base.specs.Counts.{raised}
use Rattle.http_wire.specs.FirstLine.{skip_empty_lines}
use Rattle.http_wire.specs.declared.watch.Watch.{Watch}
use Rattle.http_wire.specs.Heads.{most_piece, BeginsWith, NamesOtherVersion, IsBad, IsOpen}
use Rattle.http_wire.specs.Heads.{IsTooLarge, IsUnfinished}
use Rattle.http_wire.specs.Places.{StandsAt}

-- what was seen at the front of the bytes
abbrev pub Shows : List ℕ → Seen → Type 0
Shows bytes (Whole head len) = BeginsWith bytes head len
Shows bytes Bad = IsBad bytes
Shows bytes Version = NamesOtherVersion bytes
Shows bytes TooLarge = IsTooLarge bytes
Shows bytes NotYet = IsUnfinished bytes

-- the fact holds of the bytes, whatever follows them
abbrev pub Whatever : (List ℕ → Type 0) → List ℕ → Type 0
Whatever P bytes = (more : List ℕ) → P (bytes ++ more)

-- the answer to these bytes, and what is kept of them: all, but for a head that was answered. A
-- head and a refusal are those of the bytes, whatever follows them; the others say that the bytes
-- show neither
abbrev pub Answers : List ℕ → List ℕ → Result Head HeadEnd → Type 0
Answers bytes kept (Ok head) =
    (len : ℕ) × Whatever (λ all. BeginsWith all head len) bytes × (kept ≡ drop len bytes)
Answers bytes kept (Err HeadEnd.Ended) =
    IsUnfinished bytes × (skip_empty_lines bytes ≡ []) × (kept ≡ bytes)
Answers bytes kept (Err HeadEnd.Cut) =
    IsUnfinished bytes × (skip_empty_lines bytes ≢ []) × (kept ≡ bytes)
Answers bytes kept (Err HeadEnd.Bad) = Whatever IsBad bytes × (kept ≡ bytes)
Answers bytes kept (Err HeadEnd.Version) = Whatever NamesOtherVersion bytes × (kept ≡ bytes)
Answers bytes kept (Err HeadEnd.TooLarge) = Whatever IsTooLarge bytes × (kept ≡ bytes)
Answers bytes kept (Err HeadEnd.ReadFault) = IsUnfinished bytes × (kept ≡ bytes)
Answers bytes kept (Err HeadEnd.OutOfMemory) = kept ≡ bytes

-- the last read of some bytes: it gave a piece of at most 16,384 bytes, and began while the bytes
-- before showed no head and no refusal
pub record EndsInPiece (kept taken : List ℕ) : Type 0 where
  pub earlier : List ℕ
  pub piece : List ℕ
  pub cut : taken ≡ earlier ++ piece
  pub short : length piece ≤ most_piece
  pub unfinished : IsUnfinished (kept ++ earlier)

-- no more was read than was needed: nothing, or a last piece behind an unfinished head
abbrev pub IsPrompt : List ℕ → List ℕ → Type 0
IsPrompt kept taken = (taken ≡ []) ⊎ EndsInPiece kept taken

-- a peer that tells its bytes has none left where the answer is that they ended
abbrev pub HasNoneLeft : Option (List ℕ) → Result Head HeadEnd → Type 0
HasNoneLeft left (Ok head) = Unit {0}
HasNoneLeft left (Err HeadEnd.Ended) = IsAtEnd left
HasNoneLeft left (Err HeadEnd.Cut) = IsAtEnd left
HasNoneLeft left (Err HeadEnd.Bad) = Unit {0}
HasNoneLeft left (Err HeadEnd.Version) = Unit {0}
HasNoneLeft left (Err HeadEnd.TooLarge) = Unit {0}
HasNoneLeft left (Err HeadEnd.ReadFault) = Unit {0}
HasNoneLeft left (Err HeadEnd.OutOfMemory) = Unit {0}

-- the bytes that a peer gave, behind those that were kept, and the answer to them all, which is
-- given as soon as they show it
pub record ReadsHead
    (left_before left_after : Option (List ℕ)) (kept_before kept_after : List ℕ)
    (result : Result Head HeadEnd)
    : Type 0 where
  pub taken : List ℕ
  pub given : Consumes left_before left_after taken
  pub prompt : IsPrompt kept_before taken
  pub answers : Answers (kept_before ++ taken) kept_after result
  pub end : HasNoneLeft left_after result

-- what a look at the bytes shows; it reads nothing, so that neither an end nor a fault is answered
abbrev pub Looks : List ℕ → List ℕ → Turn → Type 0
Looks bytes kept (Answered (Ok head)) = Answers bytes kept (Ok head)
Looks bytes kept (Answered (Err HeadEnd.Ended)) = ⊥
Looks bytes kept (Answered (Err HeadEnd.Cut)) = ⊥
Looks bytes kept (Answered (Err HeadEnd.ReadFault)) = ⊥
Looks bytes kept (Answered (Err HeadEnd.Bad)) = Whatever IsBad bytes × (kept ≡ bytes)
Looks bytes kept (Answered (Err HeadEnd.Version)) =
    Whatever NamesOtherVersion bytes × (kept ≡ bytes)
Looks bytes kept (Answered (Err HeadEnd.TooLarge)) = Whatever IsTooLarge bytes × (kept ≡ bytes)
Looks bytes kept (Answered (Err HeadEnd.OutOfMemory)) = kept ≡ bytes
Looks bytes kept More = IsUnfinished bytes × (kept ≡ bytes)

-- the answer is that the peer's bytes ended
abbrev pub is_end : Result Head HeadEnd → Bool
is_end (Ok head) = false
is_end (Err HeadEnd.Ended) = true
is_end (Err HeadEnd.Cut) = true
is_end (Err HeadEnd.Bad) = false
is_end (Err HeadEnd.Version) = false
is_end (Err HeadEnd.TooLarge) = false
is_end (Err HeadEnd.ReadFault) = false
is_end (Err HeadEnd.OutOfMemory) = false

-- the answer is that a read failed
abbrev pub is_read_fault : HeadEnd → Bool
is_read_fault HeadEnd.Ended = false
is_read_fault HeadEnd.Cut = false
is_read_fault HeadEnd.Bad = false
is_read_fault HeadEnd.Version = false
is_read_fault HeadEnd.TooLarge = false
is_read_fault HeadEnd.ReadFault = true
is_read_fault HeadEnd.OutOfMemory = false

abbrev pub is_fault : {T : Type 0} → Result T HeadEnd → Bool
is_fault (Ok x) = false
is_fault (Err end) = is_read_fault end

-- one more where the answer is such
abbrev pub raised_at : Bool → ℕ → ℕ
raised_at here count = if here then raised count else count

-- the number of ends rose by one exactly where an end is answered, and the count of read faults
-- exactly where a fault is. So a call whose answer the bytes decide made no read that failed or
-- gave the end: it read no further than they do
pub record HasCauses (ends_before ends_now faults_before faults_now : ℕ)
    (result : Result Head HeadEnd) : Type 0 where
  pub ends : ends_now ≡ raised_at (is_end result) ends_before
  pub faults : faults_now ≡ raised_at (is_fault result) faults_before
  pub ends_later : ends_before ≤ ends_now
  pub faults_later : faults_before ≤ faults_now

-- where a watch says that the bytes are not to be looked at, they show no head and no refusal
pub record Trusts (watch : Watch) (bytes : List ℕ) : Type 0 where
  pub stands : StandsAt watch.progress bytes
  pub quiet : watch.due ≡ false → IsOpen bytes

-- an answer by a turn of reading, in which no byte came
pub record AnswersTurn
    (left_before left_after : Option (List ℕ)) (kept_before kept_after : List ℕ)
    (ends_before ends_now faults_before faults_now : ℕ) (result : Result Head HeadEnd)
    : Type 0 where
  pub given : Consumes left_before left_after []
  pub answers : Answers kept_before kept_after result
  pub causes : HasCauses ends_before ends_now faults_before faults_now result
  pub end : HasNoneLeft left_after result

-- a piece that came behind an unfinished head
pub record Grows (left_before left_after : Option (List ℕ)) (kept_before kept_after : List ℕ) : Type
    0 where
  pub piece : List ℕ
  pub given : Consumes left_before left_after piece
  pub grown : kept_after ≡ kept_before ++ piece
  pub some : 0 < length piece
  pub short : length piece ≤ most_piece
  pub unfinished : IsUnfinished kept_before

-- one turn of reading: an answer, or a piece more behind an unfinished head, by a read that gave
-- neither the end nor a fault
abbrev pub Turns :
    Option (List ℕ) → Option (List ℕ) → List ℕ → List ℕ → ℕ → ℕ → ℕ → ℕ → Turn → Type 0
Turns left_before left_after kept_before kept_after ends_before ends_now faults_before faults_now
    (Answered result) =
    AnswersTurn left_before left_after kept_before kept_after ends_before ends_now faults_before
    faults_now result
Turns left_before left_after kept_before kept_after ends_before ends_now faults_before faults_now
    More =
    Grows left_before left_after kept_before kept_after × (ends_now ≡ ends_before)
    × (faults_now ≡ faults_before)

-- the first look at the bytes that are kept, or at the first piece that comes: an answer, or the
-- bytes that came, behind which more are wanted
abbrev pub LooksFirst :
    Option (List ℕ) → Option (List ℕ) → List ℕ → List ℕ → ℕ → ℕ → ℕ → ℕ → Turn → Type 0
LooksFirst left_before left_after kept_before kept_after ends_before ends_now faults_before
    faults_now (Answered result) =
    ReadsHead left_before left_after kept_before kept_after result
    × HasCauses ends_before ends_now faults_before faults_now result
LooksFirst left_before left_after kept_before kept_after ends_before ends_now faults_before
    faults_now More =
    ((taken : List ℕ) × Consumes left_before left_after taken × IsPrompt kept_before taken
    × (kept_after ≡ kept_before ++ taken))
    × (ends_now ≡ ends_before) × (faults_now ≡ faults_before)
