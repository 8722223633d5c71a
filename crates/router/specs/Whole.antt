-- The value with all that a writer published.
use Rattle.std.specs.Prelude.{◌++◌, ◌∷◌, [], List, fold}
use Rattle.std.specs.Arc.{arc_value}
use Rattle.machine.specs.Code.{settings_of}
use Rattle.machine.specs.declared.settings.Settings.{Settings}
use Rattle.router_log.specs.Value.{Value}
use Rattle.router.specs.declared.current.Current.{Current}
use Rattle.router.specs.declared.update.Update.{Update}
use Rattle.router.specs.Update.{updates_in, taken_in}

-- the settings, and the updates that were taken in
abbrev pub Shown : Type 0
Shown = Settings × List Update

abbrev pub with_update : Shown → Update → Shown
with_update s u = (s.0, s.1 ++ u ∷ [])

abbrev pub shown_by : Current → Shown
shown_by c = (arc_value c.settings, updates_in c.past.value)

abbrev pub value_shown : Shown → Value
value_shown s = taken_in (settings_of s.0) s.1

-- what these updates leave of the value with which the cell began
abbrev pub whole_of : Current → List Update → Value
whole_of opening us = value_shown (fold with_update (shown_by opening) us)
