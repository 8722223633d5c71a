-- What a watch for signals found, and what it did.
use Rattle.std.specs.Prelude.{◌≡◌, ◌<◌, ◌⊎◌, ℕ, Bool, true, false, if◌then◌else◌, List, length}
use Rattle.std.specs.Prelude.{codes, IfSome, IsSomeAnd, Option, Some, None, Result, Ok, Err}
use Rattle.std.specs.declared.alloc.AllocError.{AllocError}
use Rattle.line_base.specs.Counts.{Rose, raised}
use Rattle.line_base.specs.Files.{File, file_at}
use Rattle.signal_watch.specs.declared.watching.Watched.{Watched}
use Rattle.signal_watch.specs.declared.watching.Watched.TheVariants.{Asked, Blind, Over}
use Rattle.signal_watch.specs.Status.{asks_to_stop, holds_stop}

-- a count of how often it was said that nothing is left to stop
abbrev pub heard_after : Bool → ℕ → ℕ
heard_after is_over heard = if is_over then raised heard else heard

-- the calls of a stop: one where a signal asked for it
abbrev pub calls_after : ℕ → Result Watched AllocError → ℕ
calls_after calls (Ok Asked) = raised calls
calls_after calls (Ok Over) = calls
calls_after calls (Ok Blind) = calls
calls_after calls (Err _) = calls

-- where the status file of a process is, for the process itself
abbrev pub status_path : List ℕ
status_path = codes "/proc/self/status"

-- the status file is there, and asks for an end; where the files are told
abbrev pub Asks : Option (List File) → Type 0
Asks None = Unit {0}
Asks (Some files) = IsSomeAnd (file_at files status_path) (λ status. asks_to_stop status ≡ true)

-- the status file is there, and asks for none; where the files are told
abbrev pub AsksNothing : Option (List File) → Type 0
AsksNothing None = Unit {0}
AsksNothing (Some files) =
    IsSomeAnd (file_at files status_path) (λ status. asks_to_stop status ≡ false)

-- the status file is there, and says that a signal which asks for an end would wait; where the
-- files are told
abbrev pub Holds : Option (List File) → Type 0
Holds None = Unit {0}
Holds (Some files) = IsSomeAnd (file_at files status_path) (λ status. holds_stop status ≡ true)

-- the status file is there, and says that none would wait; where the files are told
abbrev pub HoldsNone : Option (List File) → Type 0
HoldsNone None = Unit {0}
HoldsNone (Some files) =
    IsSomeAnd (file_at files status_path) (λ status. holds_stop status ≡ false)

-- a status file has no more bytes
abbrev pub most_bytes : ℕ
most_bytes = 65536

-- there is no status file of a length that one has; where the files are told
abbrev pub IsAbsent : Option (List File) → Type 0
IsAbsent None = Unit {0}
IsAbsent (Some files) = IfSome (file_at files status_path) (λ status. most_bytes < length status)

-- why a watch sees nothing: a read failed, or there is no such file
abbrev pub SeesNothing : Option (List File) → ℕ → ℕ → Type 0
SeesNothing files faults faults_now = Rose faults faults_now ⊎ IsAbsent files
