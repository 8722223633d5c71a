-- What the replay of a script writes.
use Rattle.std.specs.Prelude.{ℕ, ◌+◌, Bool, true, false, List, [], ◌∷◌, ◌++◌, codes, Option, Some}
use Rattle.std.specs.Prelude.{None}
use Rattle.std.specs.Fmt.{decimal}
use Rattle.text_parts.specs.Lines.{lines_of}
use Rattle.machine.specs.Values.{StateValue}
use Rattle.machine.specs.State.{opening}
use Rattle.script.specs.Line.{LineValue, bad, line_value}
use Rattle.script.specs.Reply.{SaidValue, said_text}
use Rattle.script.specs.Carried.{script_settings, line_answer, line_after}

-- the reply line of an answer, and nothing where there is none
abbrev pub answer_line : Option SaidValue → List ℕ
answer_line None = []
answer_line (Some said) = said_text said ++ 10 ∷ []

-- the line that tells of a bad one
abbrev pub bad_line : ℕ → List ℕ
bad_line number = codes "error line " ++ decimal number ++ 10 ∷ []

-- what is written, and whether every line was good
abbrev pub Played : Type 0
Played = List ℕ × Bool

-- a reply before the rest
abbrev pub before : List ℕ → Played → Played
before reply rest = (reply ++ rest.0, rest.1)

-- one line: its reply, and the rest is played on the state that it leaves. A bad line ends the
-- script
abbrev pub line_played : LineValue → StateValue → ℕ → (StateValue → Played) → Played
line_played bad state number rest = (bad_line number, false)
line_played line state number rest =
    before (answer_line (line_answer script_settings state line))
    (rest (line_after script_settings state line))

-- these lines, the first of which has this number, on this state
abbrev pub played : StateValue → ℕ → List (List ℕ) → Played
played state number [] = ([], true)
played state number (l ∷ ls) =
    line_played (line_value l) state number (λ next. played next (number + 1) ls)

-- a script: its lines are counted from 1, and it begins with the state in which nothing is there
abbrev pub replay_of : List ℕ → Played
replay_of script = played opening 1 (lines_of script)
