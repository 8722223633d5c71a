-- What the words of the command line ask for.
use Rattle.std.specs.Prelude.{ℕ, nat_eq, if◌then◌else◌, List, [], ◌∷◌, codes, Option, Some, None}
use Rattle.std.specs.Prelude.{Result, Ok, Err}
use Rattle.std.specs.Option.{option_and_then}
use Rattle.std.specs.Str.{bytes_eq}
use Rattle.text_parts.specs.Numbers.{at_most, number_of}
use Rattle.addr_book.specs.Name.{name_of}
use Rattle.addr_book.specs.declared.addr.Addr.{Addr}
use Rattle.script.specs.Words.{addr_in}
use Rattle.command_lines.specs.declared.words.Command.{Command}
use Rattle.command_lines.specs.declared.words.Command.TheVariants as command

-- a command
pub data Asked : Type 0 where
  -- carry out the script on the input
  replay : Asked
  -- tell whether the configuration at this path is right
  check : List ℕ → Asked
  -- serve by the configuration at this path
  serve : List ℕ → Asked
  -- tell which entries of the table at this path are never asked
  lint : List ℕ → Asked
  -- make so many generated turns by a seed, on one state
  storm : ℕ → ℕ → Asked
  -- make so many generated turns by a seed, of four passes
  weave : ℕ → ℕ → Asked
  -- ask the leader at this address for the feed of a namespace, so many times
  follow : Addr → List ℕ → ℕ → Asked

-- a command as the code has it
abbrev pub asked_by : Command → Asked
asked_by command.Replay = replay
asked_by (command.Check path) = check path.now
asked_by (command.Serve path) = serve path.now
asked_by (command.Lint path) = lint path.now
asked_by (command.Storm run) = storm run.turns run.seed
asked_by (command.Weave run) = weave run.turns run.seed
asked_by (command.Follow f) = follow f.leader f.space.now f.polls

-- a word that is a path: it is not empty and does not begin with `-`
abbrev pub path_word : List ℕ → Option (List ℕ)
path_word [] = None
path_word (b ∷ bs) = if nat_eq b 45 then None else Some (b ∷ bs)

-- a word that is the name of a namespace: a name that does not begin with `-`
abbrev pub space_word : List ℕ → Option (List ℕ)
space_word w = option_and_then name_of (path_word w)

-- a command behind which no word may follow: one that does would stand at this place
abbrev pub alone : ℕ → Asked → List (List ℕ) → Result Asked ℕ
alone place command [] = Ok command
alone place command (w ∷ ws) = Err place

-- a command at a path, which is the second word
abbrev pub path_at : (List ℕ → Asked) → Option (List ℕ) → List (List ℕ) → Result Asked ℕ
path_at command None others = Err 2
path_at command (Some path) others = alone 3 (command path) others

-- the words behind a command that is about a path
abbrev pub path_words : (List ℕ → Asked) → List (List ℕ) → Result Asked ℕ
path_words command [] = Err 2
path_words command (w ∷ ws) = path_at command (path_word w) ws

-- the most turns of a generated run, and the most polls of a leader
abbrev pub most_turns : ℕ
most_turns = 1000000

-- the turns of a generated run and its seed, a number of 64 bits, which is the third word and the
-- last
abbrev pub seed_at : ℕ → Option ℕ → List (List ℕ) → Result (ℕ × ℕ) ℕ
seed_at turns None others = Err 3
seed_at turns (Some seed) [] = Ok (turns, seed)
seed_at turns (Some seed) (w ∷ ws) = Err 4

-- the words behind the turns
abbrev pub seed_words : ℕ → List (List ℕ) → Result (ℕ × ℕ) ℕ
seed_words turns [] = Err 3
seed_words turns (w ∷ ws) = seed_at turns (number_of w) ws

-- the turns, which are the second word, and the seed
abbrev pub turns_at : Option ℕ → List (List ℕ) → Result (ℕ × ℕ) ℕ
turns_at None others = Err 2
turns_at (Some turns) others = seed_words turns others

-- the words behind a command that makes a generated run
abbrev pub turns_words : List (List ℕ) → Result (ℕ × ℕ) ℕ
turns_words [] = Err 2
turns_words (w ∷ ws) = turns_at (at_most most_turns (number_of w)) ws

-- a command of the turns and the seed that were read
abbrev pub of_run : (ℕ → ℕ → Asked) → Result (ℕ × ℕ) ℕ → Result Asked ℕ
of_run command (Ok run) = Ok (command run.0 run.1)
of_run command (Err place) = Err place

-- the number of polls, which is the fourth word and the last
abbrev pub polls_at : Addr → List ℕ → Option ℕ → List (List ℕ) → Result Asked ℕ
polls_at leader space None others = Err 4
polls_at leader space (Some polls) others = alone 5 (follow leader space polls) others

abbrev pub polls_words : Addr → List ℕ → List (List ℕ) → Result Asked ℕ
polls_words leader space [] = Err 4
polls_words leader space (w ∷ ws) = polls_at leader space (at_most most_turns (number_of w)) ws

-- the name of the namespace, which is the third word, and what is behind it
abbrev pub space_at : Addr → Option (List ℕ) → List (List ℕ) → Result Asked ℕ
space_at leader None others = Err 3
space_at leader (Some space) others = polls_words leader space others

abbrev pub space_words : Addr → List (List ℕ) → Result Asked ℕ
space_words leader [] = Err 3
space_words leader (w ∷ ws) = space_at leader (space_word w) ws

-- the address of the leader, which is the second word, and what is behind it
abbrev pub leader_at : Option Addr → List (List ℕ) → Result Asked ℕ
leader_at None others = Err 2
leader_at (Some leader) others = space_words leader others

-- the words behind `follow`
abbrev pub leader_words : List (List ℕ) → Result Asked ℕ
leader_words [] = Err 2
leader_words (w ∷ ws) = leader_at (addr_in w) ws

-- what the words ask for; or the place of the first that fits no command, counted from 1, and one
-- more than there are where a word is missing
abbrev pub command_of : List (List ℕ) → Result Asked ℕ
command_of [] = Err 1
command_of (w ∷ ws) =
    if bytes_eq w (codes "replay") then alone 2 replay ws
    else if bytes_eq w (codes "check") then path_words check ws
    else if bytes_eq w (codes "serve") then path_words serve ws
    else if bytes_eq w (codes "lint") then path_words lint ws
    else if bytes_eq w (codes "storm") then of_run storm (turns_words ws)
    else if bytes_eq w (codes "weave") then of_run weave (turns_words ws)
    else if bytes_eq w (codes "follow") then leader_words ws
    else Err 1
