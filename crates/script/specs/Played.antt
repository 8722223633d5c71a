-- What the play of a script says, and what its steps leave.
use Rattle.std.specs.Prelude.{◌≡◌, ◌⊎◌, ℕ, true, false, List, ◌++◌, Option, take}
use Rattle.std.specs.Io.KnownBytes.{Appends}
use Rattle.line_base.specs.Counts.{Rose}
use Rattle.text_parts.specs.Lines.{lines_of}
use Rattle.machine.specs.State.{opening}
use Rattle.machine.specs.Values.{StateValue}
use Rattle.script.specs.Line.{LineValue}
use Rattle.script.specs.declared.player.Turn.{Turn}
use Rattle.script.specs.declared.player.Turn.TheVariants.{Next, Stop}
use Rattle.script.specs.declared.player.PlayEnd.{PlayEnd}
use Rattle.script.specs.declared.player.PlayEnd.TheVariants.{Done, BadLine, WriteFault}
use Rattle.script.specs.declared.player.PlayEnd.TheVariants.{OutOfMemory}
use Rattle.script.specs.Replay.{Played, before, line_played, played, replay_of}
use Rattle.script.specs.Written.{AppendsFront}

-- this piece is what is written for a line, and the rest is played on the new state, or not at all
abbrev pub Answers : LineValue → StateValue → ℕ → StateValue → List ℕ → Turn → Type 0
Answers said state number new piece Next =
    (rest : StateValue → Played) → line_played said state number rest ≡ before piece (rest new)
Answers said state number new piece Stop =
    (rest : StateValue → Played) → line_played said state number rest ≡ (piece, false)

-- the whole replies to the first lines of a script, each of them good
abbrev pub BeginsReplay : List ℕ → List ℕ → Type 0
BeginsReplay script front =
    (count : ℕ) × (played opening 1 (take count (lines_of script)) ≡ (front, true))

-- what the sink has gained when the play of a script ends so
abbrev pub Plays : List ℕ → Option (List ℕ) → Option (List ℕ) → PlayEnd → Type 0
Plays script old new Done = ((replay_of script).1 ≡ true) × Appends old new (replay_of script).0
Plays script old new BadLine = ((replay_of script).1 ≡ false) × Appends old new (replay_of script).0
Plays script old new WriteFault = AppendsFront old new (replay_of script).0
Plays script old new OutOfMemory =
    (front : List ℕ) × (rest : List ℕ) × ((replay_of script).0 ≡ front ++ rest)
    × Appends old new front × BeginsReplay script front

-- these bytes were written and the play ends as it was to, or a write failed
abbrev pub Finishes : List ℕ → PlayEnd → Option (List ℕ) → Option (List ℕ) → ℕ → ℕ → PlayEnd
    → Type 0
Finishes bytes end old new before now result =
    ((result ≡ end) × Appends old new bytes)
    ⊎ ((result ≡ WriteFault) × Rose before now × AppendsFront old new bytes)

-- a front of some bytes was written, and these are the others
abbrev pub Flushes : List ℕ → List ℕ → Option (List ℕ) → Option (List ℕ) → Type 0
Flushes bytes others old new =
    (written : List ℕ) × (bytes ≡ written ++ others) × Appends old new written
