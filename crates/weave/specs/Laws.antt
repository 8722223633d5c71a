-- What holds of every list of steps.
use Rattle.std.specs.Prelude.{◌≡◌, ℕ, ◌≤◌, List, [], take, drop, length, slice_get, Some}
use Rattle.machine.specs.Values.{SettingsValue}
use Rattle.one_history.specs.Order.{InOrder, own_changes}
use Rattle.router_log.specs.Operation.{Operation, is_change, caller_of}
use Rattle.router_log.specs.Value.{value_of, opening_value, AllFit, IsRightValue}
use Rattle.router_log.specs.Call.{publishes}
use Rattle.weave.specs.World.{WorldValue, PassValue, StepValue, opening_world, run_from}

-- a pass has seen a beginning of what was published, its calls are in order in that, and nothing
-- else is its own
pub record IsPass (settings : SettingsValue) (ops : List Operation) (number : ℕ)
    (p : PassValue) : Type 0 where
  pub within : p.seen ≤ length ops
  pub order : InOrder is_change (publishes settings) caller_of number (take p.seen ops) p.items
  pub none_later : own_changes is_change (publishes settings) caller_of number (drop p.seen ops)
      ≡ []

-- each operation fitted where it was published, the cache is right at the state, and each pass is
-- in order
pub record IsOneHistory (settings : SettingsValue) (w : WorldValue) : Type 0 where
  pub fit : AllFit settings opening_value w.ops
  pub right : IsRightValue settings (value_of settings w.ops)
  pub passes : (number : ℕ) (p : PassValue) → slice_get w.passes number ≡ Some p
      → IsPass settings w.ops number p

-- so it is after any steps, of any passes in any order
abbrev pub EveryScheduleIsOneHistory : Type 0
EveryScheduleIsOneHistory =
    (settings : SettingsValue) (passes : ℕ) (steps : List StepValue)
    → IsOneHistory settings (run_from settings (opening_world passes) steps).0
