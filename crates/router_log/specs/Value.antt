-- What a router's readers enter: the state and the delegations that are kept for it.
use Rattle.std.specs.Prelude.{◌≡◌, ℕ, ◌≤◌, true, if◌then◌else◌, List, [], ◌∷◌, ◌++◌, fold, None, ⊤}
use Rattle.std.specs.FinMap.{get, contains_key}
use Rattle.std.specs.Str.{bytes_eq}
use Rattle.dtab_table.specs.Rules.{Rule}
use Rattle.addr_book.specs.Namer.{named_in}
use Rattle.machine.specs.Values.{SettingsValue, StateValue, ChangeValue, create, put, delete}
use Rattle.machine.specs.Values.{set_addrs, drop_service, report}
use Rattle.machine.specs.State.{opening, after, is_accepted}
use Rattle.machine.specs.Looking.{space_rules}
use Rattle.bind_cache.specs.Kept.{Kept, IsRight}
use Rattle.bind_cache.specs.Cache.{AreRight, found_in, kept_in, most_cost, after_table}
use Rattle.bind_cache.specs.Cache.{after_service}
use Rattle.router_log.specs.Operation.{Operation, changed, kept}

pub record Value : Type 0 where
  pub state : StateValue
  pub cache : List Kept

-- nothing was changed, and nothing is kept
abbrev pub opening_value : Value
opening_value = record { state = opening; cache = [] }

-- the rules of the namespace whose table comes first
abbrev pub first_rules : SettingsValue → StateValue → List Rule
first_rules settings state = space_rules (get state.store.spaces settings.space)

-- where the table of a namespace was replaced: only that of the first namespace touches what is
-- kept
abbrev pub retold : SettingsValue → StateValue → StateValue → List ℕ → List Kept → List Kept
retold settings state next name ks =
    if bytes_eq name settings.space
    then after_table (first_rules settings state) (first_rules settings next) ks else ks

-- what stays kept where a change took one state to another: it drops exactly what it touches. Marks
-- touch nothing, nor do other addresses of a service that is there
abbrev pub untouched_by : SettingsValue → StateValue → StateValue → ChangeValue → List Kept
    → List Kept
untouched_by settings state next (create name rules) ks = retold settings state next name ks
untouched_by settings state next (put name expected rules) ks = retold settings state next name ks
untouched_by settings state next (delete name expected) ks = retold settings state next name ks
untouched_by settings state next (set_addrs service list) ks =
    if contains_key state.book.services service then ks else after_service service ks
untouched_by settings state next (drop_service service) ks = after_service service ks
untouched_by settings state next (report addr good moment) ks = ks

-- what an operation leaves. A change that the state refuses leaves all as it is
abbrev pub applied : SettingsValue → Value → Operation → Value
applied settings value (changed caller serial change) =
    if is_accepted value.state change
    then record {
      state = after settings value.state change;
      cache = untouched_by settings value.state (after settings value.state change) change
          value.cache;
    }
    else value
applied settings value (kept caller serial k) =
    record { state = value.state; cache = kept_in value.cache k }

-- what operations come to, in order
abbrev pub value_of : SettingsValue → List Operation → Value
value_of settings ops = fold (applied settings) opening_value ops

-- the rules that stand before a request's own
abbrev pub standing_rules : SettingsValue → StateValue → List Rule
standing_rules settings state = first_rules settings state ++ settings.base

-- whether an operation may be published at a value: the state accepts the change; the delegation is
-- right there, cheap, and has no like
abbrev pub Fits : SettingsValue → Value → Operation → Type 0
Fits settings value (changed caller serial change) = is_accepted value.state change ≡ true
Fits settings value (kept caller serial k) =
    IsRight (standing_rules settings value.state) (named_in value.state.book) k
    × (k.cost ≤ most_cost) × (found_in value.cache k.path k.local ≡ None)

-- each operation fits what those before it come to
abbrev pub AllFit : SettingsValue → Value → List Operation → Type 0
AllFit settings value [] = ⊤
AllFit settings value (op ∷ ops) =
    Fits settings value op × AllFit settings (applied settings value op) ops

-- what is kept is right for the state
abbrev pub IsRightValue : SettingsValue → Value → Type 0
IsRightValue settings value =
    AreRight (standing_rules settings value.state) (named_in value.state.book) value.cache
