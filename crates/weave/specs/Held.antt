-- What the code's world says, and what holds of it between its steps.
use Rattle.std.specs.Prelude.{◌≡◌, ℕ, ◌≤◌, List, map, length, take, slice_get, Some, option_map, ⊤}
use Rattle.machine.specs.Values.{SettingsValue}
use Rattle.machine.specs.Code.{settings_of, state_of}
use Rattle.machine.specs.State.{IsSoundChange}
use Rattle.bind_cache.specs.Bindings.{bindings_of}
use Rattle.one_history.specs.Entries.{changes_made, others_made}
use Rattle.router_log.specs.Operation.{is_change, kept_count}
use Rattle.router_log.specs.Operation.{Operation as OperationValue}
use Rattle.router_log.specs.Value.{Value, value_of}
use Rattle.router_log.specs.Call.{publishes}
use Rattle.weave.specs.declared.pass.Pass.{Pass}
use Rattle.weave.specs.declared.pass.Flight.{Flight}
use Rattle.weave.specs.declared.step.Told.{Told}
use Rattle.weave.specs.declared.world.World.{World}
use Rattle.weave.specs.Code.{items_of, told_value, kept_in_arc, pass_of}
use Rattle.weave.specs.Listed.{operations_in}
use Rattle.weave.specs.World.{Item, StepValue, publish, ToldValue, WorldValue, answer_of, fresh_of}
use Rattle.weave.specs.World.{stepped}
use Rattle.weave.specs.Worlds.{IsWorld}

abbrev pub ops_of : World → List OperationValue
ops_of w = operations_in w.operations.list.value

abbrev pub world_of : World → WorldValue
world_of w = record { ops = ops_of w; passes = map pass_of w.passes.items }

-- a question that waits has the answer to its call at its point, and what a pick works out there
pub record FlightHolds (settings : SettingsValue) (ops : List OperationValue) (items : List Item)
    (f : Flight) : Type 0 where
  pub item : Item
  pub here : slice_get items f.item ≡ Some item
  pub within : item.1 ≤ length ops
  pub told : told_value f.told ≡ answer_of settings (take item.1 ops) item.0
  pub fresh : option_map kept_in_arc f.fresh ≡ fresh_of settings (take item.1 ops) item.0

pub record PassHolds (settings : SettingsValue) (ops : List OperationValue) (number : ℕ)
    (p : Pass) : Type 0 where
  pub changes : p.changes ≡ changes_made is_change (publishes settings) number ops (items_of p)
  pub keeps : p.keeps ≡ others_made is_change (publishes settings) number ops (items_of p)
  pub flight : (f : Flight) → p.flight ≡ Some f → FlightHolds settings ops (items_of p) f

abbrev pub value_in : World → Value
value_in w = record { state = state_of w.state; cache = bindings_of w.cache }

-- its state and its cache are what the operations come to, and each pass is as its calls say
pub record Holds (w : World) : Type 0 where
  pub world : IsWorld (settings_of w.settings) (world_of w)
  pub value : value_in w ≡ value_of (settings_of w.settings) (ops_of w)
  pub keeps : w.keeps ≡ kept_count (ops_of w)
  pub passes : (number : ℕ) (p : Pass) → slice_get w.passes.items number ≡ Some p
      → PassHolds (settings_of w.settings) (ops_of w) number p

-- the world is then this one, under the same settings
pub record Becomes (old new : World) (w : WorldValue) : Type 0 where
  pub settings : settings_of new.settings ≡ settings_of old.settings
  pub world : world_of new ≡ w
  pub holds : Holds new

-- what is made of a world, and what is told
abbrev pub IsMade : World → World → WorldValue × ToldValue → ToldValue → Type 0
IsMade old new made told = Becomes old new made.0 × (told ≡ made.1)

abbrev pub IsSoundStep : StepValue → Type 0
IsSoundStep (publish number change) = IsSoundChange change
IsSoundStep _ = ⊤

-- a step of the code is that of the definition, and tells the same
pub record IsStep (old new : World) (step : StepValue) (told : Told) : Type 0 where
  pub becomes : Becomes old new (stepped (settings_of old.settings) (world_of old) step).0
  pub told_is : told_value told ≡ (stepped (settings_of old.settings) (world_of old) step).1
