-- What a connection tells of itself.
use Rattle.std.specs.Prelude.{◌≡◌, ℕ, ◌<◌, Bool, true, false, List, length, Option, Result, Ok, Err}
use Rattle.std.specs.Io.{ReadsAtMost}
use Rattle.std.specs.Io.KnownBytes.{Appends, Keeps, ReadConsumes}
use Rattle.line_base.specs.Counts.{HasCause, CountsEnds, raised}
use Rattle.line_base.specs.declared.outside.Failed.{Failed}
use Rattle.line_base.specs.declared.outside.Next.{Next}
use Rattle.line_base.specs.declared.outside.Next.TheVariants.{Bytes, End, Closing, Quiet}

-- a connection: the bytes that it has yet to give and those that were given to it, where it tells
-- them; how often a read and a write failed, how many reads gave the end, how often it said that
-- its listeners are closing, and how often that nothing came for a while. A count never falls, and
-- stands still at the last value of a `u64`
pub record Line : Type 0 where
  pub left : Option (List ℕ)
  pub given : Option (List ℕ)
  pub read_faults : ℕ
  pub write_faults : ℕ
  pub ends : ℕ
  pub closings : ℕ
  pub quiets : ℕ

-- nothing moved on the connection
pub record Rests (old new : Line) : Type 0 where
  pub left : Keeps old.left new.left
  pub given : Keeps old.given new.given
  pub read_faults : new.read_faults ≡ old.read_faults
  pub write_faults : new.write_faults ≡ old.write_faults
  pub ends : new.ends ≡ old.ends
  pub closings : new.closings ≡ old.closings
  pub quiets : new.quiets ≡ old.quiets

-- these bytes were given to the peer, and nothing else moved but its count of failed writes
pub record Gives (old new : Line) (bytes : List ℕ) : Type 0 where
  pub left : Keeps old.left new.left
  pub given : Appends old.given new.given bytes
  pub read_faults : new.read_faults ≡ old.read_faults
  pub ends : new.ends ≡ old.ends
  pub closings : new.closings ≡ old.closings
  pub quiets : new.quiets ≡ old.quiets

-- nothing was written to the connection, and it said neither that its listeners are closing nor
-- that nothing came for a while
pub record IsUnwritten (old new : Line) : Type 0 where
  pub given : Keeps old.given new.given
  pub write_faults : new.write_faults ≡ old.write_faults
  pub closings : new.closings ≡ old.closings
  pub quiets : new.quiets ≡ old.quiets

-- nothing was read off the connection, and it said neither that its listeners are closing nor that
-- nothing came for a while
pub record IsUnread (old new : Line) : Type 0 where
  pub left : Keeps old.left new.left
  pub read_faults : new.read_faults ≡ old.read_faults
  pub ends : new.ends ≡ old.ends
  pub closings : new.closings ≡ old.closings
  pub quiets : new.quiets ≡ old.quiets

-- the connection was read once, into this buffer
pub record IsRead (old new : Line) (buffer : List ℕ) (result : Result ℕ Failed) : Type 0 where
  pub bound : ReadsAtMost result buffer
  pub bytes : ReadConsumes old.left new.left result buffer
  pub others : IsUnwritten old new
  pub cause : HasCause old.read_faults new.read_faults result
  pub end : CountsEnds old.ends new.ends result (length buffer)

-- it said whether its listeners are closing, and nothing else moved
abbrev pub told_closing : Bool → Line → Line
told_closing false line = line
told_closing true line = record {
  left = line.left;
  given = line.given;
  read_faults = line.read_faults;
  write_faults = line.write_faults;
  ends = line.ends;
  closings = raised line.closings;
  quiets = line.quiets;
}

-- it said that nothing came for a while, and nothing else moved
abbrev pub told_quiet : Line → Line
told_quiet line = record {
  left = line.left;
  given = line.given;
  read_faults = line.read_faults;
  write_faults = line.write_faults;
  ends = line.ends;
  closings = line.closings;
  quiets = raised line.quiets;
}

-- a wait for the next request: it is a read, or it ended since the listeners are closing, or since
-- nothing came for a while; and the connection said so
abbrev pub WaitsForNext : Line → Line → List ℕ → Result Next Failed → Type 0
WaitsForNext old new buffer (Ok (Bytes count)) = (0 < count) × IsRead old new buffer (Ok count)
WaitsForNext old new buffer (Ok End) = IsRead old new buffer (Ok 0)
WaitsForNext old new buffer (Ok Closing) = new ≡ told_closing true old
WaitsForNext old new buffer (Ok Quiet) = new ≡ told_quiet old
WaitsForNext old new buffer (Err e) = IsRead old new buffer (Err e)
