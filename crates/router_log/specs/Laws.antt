-- What holds of all lists of what was published.
use Rattle.std.specs.Prelude.{◌≡◌, ℕ, true, List, ◌++◌, Some}
use Rattle.addr_book.specs.Namer.{named_in}
use Rattle.machine.specs.Values.{SettingsValue, ChangeValue}
use Rattle.machine.specs.Ready.{ReadyValue, IsReadyFor}
use Rattle.bind_cache.specs.Kept.{Kept, IsRight}
use Rattle.one_history.specs.Order.{OfCaller}
use Rattle.router_log.specs.Operation.{Operation, changed, kept, is_change, caller_of, place_of}
use Rattle.router_log.specs.Value.{Value, value_of, opening_value, applied, Fits, AllFit}
use Rattle.router_log.specs.Value.{IsRightValue, standing_rules}
use Rattle.router_log.specs.Call.{changing, publishes, is_kept}
use Rattle.router_log.specs.Taking.{with_change, with_kept}

-- where all of it fitted, what is kept is right for the state
abbrev pub ValuesAreRight : Type 0
ValuesAreRight =
    (settings : SettingsValue) (ops : List Operation) → AllFit settings opening_value ops
    → IsRightValue settings (value_of settings ops)

-- and the state's place is the number of changes
abbrev pub PlaceIsLength : Type 0
PlaceIsLength =
    (settings : SettingsValue) (ops : List Operation) → AllFit settings opening_value ops
    → (value_of settings ops).state.place ≡ place_of ops

-- at one place there is one state, whatever was kept meanwhile
abbrev pub OnePlaceOneState : Type 0
OnePlaceOneState =
    (settings : SettingsValue) (ops more : List Operation) → place_of (ops ++ more) ≡ place_of ops
    → (value_of settings (ops ++ more)).state ≡ (value_of settings ops).state

-- what a call publishes is of its caller
abbrev pub PublishedIsOwn : Type 0
PublishedIsOwn =
    (settings : SettingsValue) (caller : ℕ)
    → OfCaller is_change (publishes settings) caller_of caller

-- a change that is published fits what stood before it
abbrev pub PublishedChangeFits : Type 0
PublishedChangeFits =
    (settings : SettingsValue) (before : List Operation) (caller changes others : ℕ)
    (change : ChangeValue) (op : Operation)
    → publishes settings before caller changes others (changing change) ≡ Some op
    → (op ≡ changed caller changes change) × Fits settings (value_of settings before) op

-- so does a delegation that was right at some place, and is kept behind more operations
abbrev pub KeptFits : Type 0
KeptFits =
    (settings : SettingsValue) (ops more : List Operation) (k : Kept) → k.place ≡ place_of ops
    → IsRight (standing_rules settings (value_of settings ops).state)
    (named_in (value_of settings ops).state.book) k
    → is_kept settings (ops ++ more) k ≡ true → (caller others : ℕ)
    → Fits settings (value_of settings (ops ++ more)) (kept caller others k)

-- a value that takes in a change that its state accepts, as it was prepared from this state,
-- becomes what the published change leaves
abbrev pub TakingChanges : Type 0
TakingChanges =
    (settings : SettingsValue) (value : Value) (caller serial : ℕ) (change : ChangeValue)
    (ready : ReadyValue) → IsReadyFor settings value.state change ready
    → with_change settings value change ready
    ≡ applied settings value (changed caller serial change)

-- and so does one that takes in a delegation that fits it
abbrev pub TakingKeeps : Type 0
TakingKeeps =
    (settings : SettingsValue) (value : Value) (caller serial : ℕ) (k : Kept)
    → Fits settings value (kept caller serial k)
    → with_kept value k ≡ applied settings value (kept caller serial k)
