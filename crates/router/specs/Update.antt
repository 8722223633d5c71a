-- What the code's updates say, and what a copy of the value is that took some in.
use Rattle.std.specs.Prelude.{List, [], ◌∷◌, ◌++◌, map, fold, ⊤}
use Rattle.std.specs.Arc.{arc_value}
use Rattle.machine.specs.Values.{SettingsValue}
use Rattle.machine.specs.Code.{change_of, ready_of}
use Rattle.machine.specs.Ready.{IsReadyFor}
use Rattle.bind_cache.specs.Stored.{kept_of}
use Rattle.router_log.specs.Operation.{Operation, changed, kept}
use Rattle.router_log.specs.Value.{Value, opening_value, Fits}
use Rattle.router_log.specs.Taking.{with_change, with_kept}
use Rattle.router.specs.declared.update.Update.{Update}
use Rattle.router.specs.declared.update.Update.TheVariants as update
use Rattle.router.specs.declared.update.Past.{Past, Nothing, Then'}

-- the updates that a copy took in
abbrev pub updates_in : Past → List Update
updates_in Nothing = []
updates_in (Then' shape before u) = updates_in before ++ u.value ∷ []

-- an update as a plain value
abbrev pub operation_of : Update → Operation
operation_of (update.Changed by serial change ready) = changed by serial (change_of change)
operation_of (update.Kept by serial binding) = kept by serial (kept_of (arc_value binding))

abbrev pub operations_of : List Update → List Operation
operations_of us = map operation_of us

-- what any value comes to by an update, also where it doesn't fit
abbrev pub taking : SettingsValue → Value → Update → Value
taking settings value (update.Changed by serial change ready) =
    with_change settings value (change_of change) (ready_of ready)
taking settings value (update.Kept by serial binding) =
    with_kept value (kept_of (arc_value binding))

abbrev pub taken_in : SettingsValue → List Update → Value
taken_in settings us = fold (taking settings) opening_value us

-- an update fits a value: its change is accepted there, and its parts are those prepared of it
-- there; or its delegation is right there, cheap, and has no like
abbrev pub UpdateFits : SettingsValue → Value → Update → Type 0
UpdateFits settings value (update.Changed by serial change ready) =
    IsReadyFor settings value.state (change_of change) (ready_of ready)
UpdateFits settings value (update.Kept by serial binding) =
    Fits settings value (kept by serial (kept_of (arc_value binding)))

abbrev pub AllUpdatesFit : SettingsValue → Value → List Update → Type 0
AllUpdatesFit settings value [] = ⊤
AllUpdatesFit settings value (u ∷ us) =
    UpdateFits settings value u × AllUpdatesFit settings (taking settings value u) us
