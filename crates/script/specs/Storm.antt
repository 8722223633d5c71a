-- Generated runs: what their turns do to a state, and how they are summed up.
use Rattle.std.specs.Prelude.{ℕ, ◌+◌, if◌then◌else◌, List, [], ◌∷◌, ◌++◌, codes}
use Rattle.machine.specs.Values.{SettingsValue, StateValue, ChosenValue, picked, not_picked}
use Rattle.machine.specs.State.{opening, after, is_accepted}
use Rattle.machine.specs.Choosing.{pick_of, chosen_of}
use Rattle.turn_parts.specs.Parts.{first_change}
use Rattle.script.specs.Reply.{with_number}
use Rattle.script.specs.Turns.{TurnValue, changing, picking, turns_from}
use Rattle.script.specs.Turns.{words_of_seed}

-- how a run stands: its state, the changes that were refused, the picks with and without a replica,
-- and the sum of the picked ports
pub record RunValue : Type 0 where
  pub state : StateValue
  pub refused : ℕ
  pub picked : ℕ
  pub lacking : ℕ
  pub ports : ℕ

-- a run with one more answer to a pick
abbrev pub with_answer : RunValue → ChosenValue → RunValue
with_answer run (picked addr client residual) =
    record run { picked = run.picked + 1; ports = run.ports + addr.port }
with_answer run (not_picked why) = record run { lacking = run.lacking + 1 }

-- a run after a turn: picks are made where no address has any load
abbrev pub after_turn : SettingsValue → RunValue → TurnValue → RunValue
after_turn settings run (changing c) =
    record run {
      state = after settings run.state c;
      refused = run.refused + (if is_accepted run.state c then 0 else 1);
    }
after_turn settings run (picking ask) =
    with_answer run (chosen_of (pick_of settings run.state ask 0 0))

abbrev pub after_turns : SettingsValue → RunValue → List TurnValue → RunValue
after_turns settings run [] = run
after_turns settings run (t ∷ ts) = after_turns settings (after_turn settings run t) ts

-- a run before its turns
abbrev pub first_run : SettingsValue → RunValue
first_run settings =
    record {
      state = after settings opening first_change;
      refused = 0;
      picked = 0;
      lacking = 0;
      ports = 0;
    }

-- the line that sums a run up, whose first number is the length of the history
abbrev pub run_line : RunValue → List ℕ
run_line run =
    let changes = with_number (codes "changes") run.state.place in
    let refused = with_number (changes ++ codes " refused") run.refused in
    let replicas = with_number (refused ++ codes " picked") run.picked in
    let lacking = with_number (replicas ++ codes " none") run.lacking in
    with_number (lacking ++ codes " ports") run.ports

-- the line of so many turns by the words of a number
abbrev pub storm_of : SettingsValue → ℕ → ℕ → List ℕ
storm_of settings turns seed =
    run_line (after_turns settings (first_run settings) (turns_from turns 0 (words_of_seed seed)))
