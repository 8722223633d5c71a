-- The statuses, and what a last line leaves.
use Rattle.std.specs.Prelude.{◌≡◌, ◌⊎◌, ℕ, List}
use Rattle.std.specs.Io.KnownBytes.{Appends}
use Rattle.line_base.specs.Counts.{Rose}
use Rattle.line_base.specs.Streams.{Output}
use Rattle.script.specs.Written.{AppendsFront}
use Rattle.linker_commands.specs.declared.run.ExitStatus.{ExitStatus}
use Rattle.linker_commands.specs.declared.run.ExitStatus.TheVariants as status

-- the number of a status
abbrev pub code_of : ExitStatus → ℕ
code_of status.Done = 0
code_of status.Words = 2
code_of status.Wrong = 3
code_of status.Read = 4
code_of status.Write = 5
code_of status.Net = 6
code_of status.Memory = 7
code_of status.Long = 8

-- a last line was written and this is the status, or the write failed
abbrev pub Tells : List ℕ → ExitStatus → Output → Output → ExitStatus → Type 0
Tells line end old new result =
    ((result ≡ end) × Appends old.held new.held line × (new.faults ≡ old.faults))
    ⊎ ((result ≡ status.Write) × Rose old.faults new.faults
    × AppendsFront old.held new.held line)
