-- What contracts see of a reader of the router's value.
use Rattle.std.specs.Prelude.{◌≡◌, ℕ, ◌++◌, ◌∷◌, [], List, map, length}
use mathlib.Core.List.{IsPrefix}
use Rattle.snap_cell.specs.declared.reader.Reader.{Reader}
use Rattle.snap_cell.specs.Views.{seen_of, items_of, refusals_of, opening_of, SameReader}
use Rattle.machine.specs.Code.{ask_of, look_value, change_of}
use Rattle.machine.specs.Values.{SettingsValue}
use Rattle.bind_cache.specs.Stored.{kept_of}
use Rattle.router_log.specs.Operation.{Operation}
use Rattle.router_log.specs.Call.{Call, asked, looked, changing, keeping}
use Rattle.router.specs.declared.call.Call.{Call as Shown}
use Rattle.router.specs.declared.call.Call.TheVariants as call
use Rattle.router.specs.declared.current.Current.{Current}
use Rattle.router.specs.declared.update.Update.{Update}
use Rattle.router.specs.Update.{operations_of}
use Rattle.router.specs.Values.{settings_in, IsEmpty}

-- a call as a plain value
abbrev pub call_of : Shown → Call
call_of (call.Asked ask) = asked (ask_of ask.value)
call_of (call.Looked look) = looked (look_value look.value)
call_of (call.Changing change) = changing (change_of change.value)
call_of (call.Keeping binding) = keeping (kept_of binding.value)

abbrev pub calls_of : List (Shown × ℕ) → List (Call × ℕ)
calls_of items = map (λ i. (call_of i.0, i.1)) items

module _ {S : Type 0} where
  -- the operations that a reader has seen
  abbrev pub seen_by : Reader Current Update Shown S → List Operation
  seen_by r = operations_of (seen_of r)

  -- its items
  abbrev pub items_by : Reader Current Update Shown S → List (Call × ℕ)
  items_by r = calls_of (items_of r)

  -- the settings of the router whose value it reads
  abbrev pub settings_by : Reader Current Update Shown S → SettingsValue
  settings_by r = settings_in (opening_of r)

  -- the value began with nothing
  abbrev pub BeganEmpty : Reader Current Update Shown S → Type 0
  BeganEmpty r = IsEmpty (opening_of r)

  -- the reader entered for one call: it has seen no less than it had, and the call is one item
  -- more, at the end of what it has seen then
  pub record Entered (old new : Reader Current Update Shown S) (asked : Call) : Type 0 where
    pub same : SameReader old new
    pub refused : refusals_of new ≡ refusals_of old
    pub before : IsPrefix (seen_by old) (seen_by new)
    pub item : items_by new ≡ items_by old ++ (asked, length (seen_by new)) ∷ []

  -- the reader entered for no call: it has seen no less than it had
  pub record Saw (old new : Reader Current Update Shown S) : Type 0 where
    pub same : SameReader old new
    pub refused : refusals_of new ≡ refusals_of old
    pub before : IsPrefix (seen_of old) (seen_of new)
    pub items : items_of new ≡ items_of old
