-- What the code's turns and runs say.
use Rattle.std.specs.Prelude.{ℕ, ◌*◌, ◌≤◌}
use Rattle.machine.specs.Code.{state_of, change_of, ask_of}
use Rattle.machine.specs.State.{IsSoundChange}
use Rattle.script.specs.declared.turn.Turn.{Turn}
use Rattle.script.specs.declared.turn.Turn.TheVariants as code
use Rattle.script.specs.declared.run.Run.{Run}
use Rattle.script.specs.Turns.{TurnValue, changing, picking}
use Rattle.script.specs.Storm.{RunValue}

abbrev pub turn_value : Turn → TurnValue
turn_value (code.Change c) = changing (change_of c)
turn_value (code.Pick ask) = picking (ask_of ask)

-- the table that a turn brings in is sound
abbrev pub IsSoundTurn : TurnValue → Type 0
IsSoundTurn (changing c) = IsSoundChange c
IsSoundTurn (picking ask) = Unit {0}

abbrev pub run_of : Run → RunValue
run_of run =
    record {
      state = state_of run.state;
      refused = run.refused;
      picked = run.picked;
      lacking = run.lacking;
      ports = run.ports;
    }

-- so many turns give no greater counts, as a port is at most 65,535
pub record IsWithin (turns : ℕ) (run : RunValue) : Type 0 where
  pub refused : run.refused ≤ turns
  pub picked : run.picked ≤ turns
  pub lacking : run.lacking ≤ turns
  pub ports : run.ports ≤ turns * 65535
