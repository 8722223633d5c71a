-- The bytes that are kept, and what reading does to them.
use Rattle.std.specs.Prelude.{◌≡◌, ◌<◌, ◌≤◌, ℕ, true, List, [], ◌++◌, length, slice_range, Option}
use Rattle.std.specs.Prelude.{Result, Ok, Err}
use Rattle.std.specs.Io.KnownBytes.{Consumes, IsAtEnd, Keeps}
use Rattle.line_base.specs.declared.dialer.DialEvent.{DialEvent}
use Rattle.line_base.specs.declared.dialer.DialEvent.TheVariants.{Got}
use Rattle.line_base.specs.Counts.{raised}
use Rattle.line_base.specs.Dials.{KeepsLog, Logs}
use Rattle.line_base.specs.declared.outside.Failed.{Failed}
use Rattle.line_base.specs.declared.outside.Next.{Next}
use Rattle.line_base.specs.declared.outside.Next.TheVariants.{Bytes, End, Closing, Quiet}
use Rattle.line_base.specs.Lines.{IsUnwritten, Line, told_closing, told_quiet}
use Rattle.http_wire.specs.declared.rest.FillFault.{FillFault}
use Rattle.http_wire.specs.declared.rest.FillFault.TheVariants.{ReadFault, OutOfMemory}
use Rattle.http_wire.specs.declared.room.Room.{Room}

-- the bytes that a room holds
abbrev pub held : Room → List ℕ
held room = slice_range room.bytes.items room.at room.end

-- the bytes that came stand behind those that were kept, so many as are told, and none come only at
-- the end; a fault changes nothing
abbrev pub Fills : {E : Type 0} → Option (List ℕ) → Option (List ℕ) → List ℕ → List ℕ
    → Result ℕ E → Type 0
Fills left_before left_after kept_before kept_after (Ok count) =
    (taken : List ℕ) × Consumes left_before left_after taken × (length taken ≡ count)
    × (count ≡ 0 → IsAtEnd left_after) × (kept_after ≡ kept_before ++ taken)
Fills left_before left_after kept_before kept_after (Err fault) =
    Keeps left_before left_after × (kept_after ≡ kept_before)

-- the same for bytes that are received: the log gains them too, where it is told
abbrev pub Receives : {E : Type 0} → Option (List ℕ) → Option (List ℕ) → Option (List DialEvent)
    → Option (List DialEvent) → List ℕ → List ℕ → Result ℕ E → Type 0
Receives left_before left_after log_before log_after kept_before kept_after (Ok count) =
    (taken : List ℕ) × Consumes left_before left_after taken × Logs log_before log_after (Got taken)
    × (length taken ≡ count) × (count ≡ 0 → IsAtEnd left_after)
    × (kept_after ≡ kept_before ++ taken)
Receives left_before left_after log_before log_after kept_before kept_after (Err fault) =
    Keeps left_before left_after × KeepsLog log_before log_after × (kept_after ≡ kept_before)

-- ---- a wait for the next request

-- a piece came behind the bytes that were kept
pub record GivesPiece (old new : Line) (kept kept_after : List ℕ) (most : ℕ) : Type 0 where
  pub piece : List ℕ
  pub given : Consumes old.left new.left piece
  pub grown : kept_after ≡ kept ++ piece
  pub some : 0 < length piece
  pub short : length piece ≤ most
  pub ends : new.ends ≡ old.ends
  pub faults : new.read_faults ≡ old.read_faults
  pub others : IsUnwritten old new

-- no byte came: the end was given, or the read failed, and these are the counts
pub record GivesNone
    (old new : Line) (kept kept_after : List ℕ) (ends_now faults_now : ℕ)
    : Type 0 where
  pub given : Consumes old.left new.left []
  pub same : kept_after ≡ kept
  pub ends : new.ends ≡ ends_now
  pub ends_later : old.ends ≤ new.ends
  pub faults : new.read_faults ≡ faults_now
  pub faults_later : old.read_faults ≤ new.read_faults
  pub others : IsUnwritten old new

-- nothing came, since the listeners are closing
pub record TellsClosing (old new : Line) (kept kept_after : List ℕ) : Type 0 where
  pub same : kept_after ≡ kept
  pub closing : new ≡ told_closing true old

-- nothing came for a while, and the connection said so
pub record TellsQuiet (old new : Line) (kept kept_after : List ℕ) : Type 0 where
  pub same : kept_after ≡ kept
  pub quiet : new ≡ told_quiet old

-- what a wait for the next request gave, of at most so many bytes
abbrev pub FillsNext : Line → Line → List ℕ → List ℕ → ℕ → Result Next Failed → Type 0
FillsNext old new kept kept_after most (Ok (Bytes count)) = GivesPiece old new kept kept_after most
FillsNext old new kept kept_after most (Ok End) =
    GivesNone old new kept kept_after (raised old.ends) old.read_faults × IsAtEnd new.left
FillsNext old new kept kept_after most (Ok Closing) = TellsClosing old new kept kept_after
FillsNext old new kept kept_after most (Ok Quiet) = TellsQuiet old new kept kept_after
FillsNext old new kept kept_after most (Err failed) =
    GivesNone old new kept kept_after old.ends (raised old.read_faults)

-- or there was no memory for it
abbrev pub FillsNextIn : Line → Line → List ℕ → List ℕ → ℕ → Result Next FillFault → Type 0
FillsNextIn old new kept kept_after most (Ok (Bytes count)) =
    GivesPiece old new kept kept_after most
FillsNextIn old new kept kept_after most (Ok End) =
    GivesNone old new kept kept_after (raised old.ends) old.read_faults × IsAtEnd new.left
FillsNextIn old new kept kept_after most (Ok Closing) = TellsClosing old new kept kept_after
FillsNextIn old new kept kept_after most (Ok Quiet) = TellsQuiet old new kept kept_after
FillsNextIn old new kept kept_after most (Err ReadFault) =
    GivesNone old new kept kept_after old.ends (raised old.read_faults)
FillsNextIn old new kept kept_after most (Err OutOfMemory) =
    (new ≡ old) × (kept_after ≡ kept)
