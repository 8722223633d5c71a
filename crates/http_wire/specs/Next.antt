-- The next request of a connection.
use Rattle.std.specs.Prelude.{◌≡◌, ℕ, Bool, true, false, List, [], ◌++◌, Result, Ok, Err}
use Rattle.std.specs.Io.KnownBytes.{Consumes}
use Rattle.line_base.specs.Lines.{IsUnwritten, Line, told_closing, told_quiet}
use Rattle.http_wire.specs.declared.head.Head.{Head}
use Rattle.http_wire.specs.declared.next.Awaited.{Awaited}
use Rattle.http_wire.specs.declared.next.Awaited.TheVariants as awaited
use Rattle.http_wire.specs.declared.next.NextHead.{NextHead}
use Rattle.http_wire.specs.declared.next.NextHead.TheVariants as next
use Rattle.http_wire.specs.declared.reading.HeadEnd.{HeadEnd}
use Rattle.http_wire.specs.declared.rest.FillFault.{FillFault}
use Rattle.line_base.specs.declared.outside.Next.{Next}
use Rattle.http_wire.specs.Reading.{HasCauses, IsPrompt, ReadsHead}

-- a head was read off a connection, or it was seen that there is none
pub record ReadsOff
    (old new : Line) (kept kept_after : List ℕ) (result : Result Head HeadEnd)
    : Type 0 where
  pub head : ReadsHead old.left new.left kept kept_after result
  pub causes : HasCauses old.ends new.ends old.read_faults new.read_faults result
  pub others : IsUnwritten old new

-- no byte of a next request was kept or came, and the connection said that its listeners are
-- closing
pub record IsDrained (old new : Line) (kept kept_after : List ℕ) : Type 0 where
  pub none : kept ≡ []
  pub none_came : kept_after ≡ []
  pub closing : new ≡ told_closing true old

-- no byte of a next request was kept or came, and the connection said that nothing came for a while
pub record IsQuiet (old new : Line) (kept kept_after : List ℕ) : Type 0 where
  pub none : kept ≡ []
  pub none_came : kept_after ≡ []
  pub quiet : new ≡ told_quiet old

-- the next request of a connection was waited for, and its head was read
abbrev pub ReadsNext : Line → Line → List ℕ → List ℕ → NextHead → Type 0
ReadsNext old new kept kept_after (next.Head head) = ReadsOff old new kept kept_after (Ok head)
ReadsNext old new kept kept_after (next.Ended end) = ReadsOff old new kept kept_after (Err end)
ReadsNext old new kept kept_after next.Closing = IsDrained old new kept kept_after
ReadsNext old new kept kept_after next.Quiet = IsQuiet old new kept kept_after

-- bytes were kept, or came where none were
pub record HasBegun (old new : Line) (kept kept_after : List ℕ) : Type 0 where
  pub came : List ℕ
  pub given : Consumes old.left new.left came
  pub prompt : IsPrompt kept came
  pub grown : kept_after ≡ kept ++ came
  pub ends : new.ends ≡ old.ends
  pub faults : new.read_faults ≡ old.read_faults
  pub others : IsUnwritten old new

-- what a wait for more bytes says of the begin of a request
abbrev pub awaited_of : Result Next FillFault → Awaited
awaited_of (Ok (Next.Bytes count)) = awaited.Begun
awaited_of (Ok Next.End) = awaited.Ended HeadEnd.Ended
awaited_of (Ok Next.Closing) = awaited.Closing
awaited_of (Ok Next.Quiet) = awaited.Quiet
awaited_of (Err FillFault.ReadFault) = awaited.Ended HeadEnd.ReadFault
awaited_of (Err FillFault.OutOfMemory) = awaited.Ended HeadEnd.OutOfMemory

-- the begin of a next request was waited for
abbrev pub Awaits : Line → Line → List ℕ → List ℕ → Awaited → Type 0
Awaits old new kept kept_after awaited.Begun = HasBegun old new kept kept_after
Awaits old new kept kept_after awaited.Closing = IsDrained old new kept kept_after
Awaits old new kept kept_after awaited.Quiet = IsQuiet old new kept kept_after
Awaits old new kept kept_after (awaited.Ended end) = ReadsOff old new kept kept_after (Err end)

-- the last request that a connection may carry is not asked for whether it is the last one
abbrev pub IsAsked : Bool → Bool → Type 0
IsAsked false closing = Unit {0}
IsAsked true closing = closing ≡ false
