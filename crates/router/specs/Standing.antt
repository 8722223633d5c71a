-- How a caller stands in what it has seen.
use Rattle.std.specs.Prelude.{◌≡◌, ℕ, ◌≤◌, List}
use Rattle.std.proofs.Props.{props}
use Rattle.machine.specs.Values.{SettingsValue}
use Rattle.one_history.specs.Entries.{changes_made, others_made}
use Rattle.one_history.specs.Calls.{Placed}
use Rattle.one_history.proofs.Facts.{Placed-prop}
use Rattle.router_log.specs.Codes.{coded_operation}
use Rattle.router_log.specs.Operation.{Operation, is_change, place_of, kept_count}
use Rattle.router_log.specs.Call.{Call, publishes}

-- its calls stand in order in that, and so do the operations that they published: so many changes,
-- and so many delegations that are kept. In all it has seen so many changes
pub record Stands (settings : SettingsValue) (caller : ℕ) (seen : List Operation)
    (items : List (Call × ℕ)) (made kept place : ℕ) : Type 0 where
  pub placed : Placed is_change (publishes settings) caller seen items
  pub made_is : made ≡ changes_made is_change (publishes settings) caller seen items
  pub kept_is : kept ≡ others_made is_change (publishes settings) caller seen items
  pub place_is : place ≡ place_of seen
  pub few_made : made ≤ place_of seen
  pub few_kept : kept ≤ kept_count seen

pub Stands-prop : (settings : SettingsValue) (caller : ℕ) (seen : List Operation)
    (items : List (Call × ℕ)) (made kept place : ℕ)
    → IsProp (Stands settings caller seen items made kept place)
Stands-prop settings caller seen items made kept place =
    let placed = Placed-prop is_change (publishes settings) coded_operation caller seen items
    in hlevel (props, placed)
