-- The value that readers enter, as the code keeps it.
use Rattle.std.specs.Prelude.{◌≡◌, length}
use Rattle.std.specs.Arc.{arc_value}
use Rattle.machine.specs.Values.{SettingsValue}
use Rattle.machine.specs.Code.{settings_of}
use Rattle.router_log.specs.Value.{Value}
use Rattle.router.specs.declared.current.Current.{Current}
use Rattle.router.specs.Update.{updates_in, taken_in}

abbrev pub settings_in : Current → SettingsValue
settings_in c = settings_of (arc_value c.settings)

abbrev pub value_in : Current → Value
value_in c = taken_in (settings_in c) (updates_in c.past.value)

-- it took in nothing
abbrev pub IsEmpty : Current → Type 0
IsEmpty c = length (updates_in c.past.value) ≡ 0
