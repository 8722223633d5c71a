-- The services with which a router begins: what passes have seen of them, and where the book has no
-- room for one.
use Rattle.std.specs.Prelude.{◌≡◌, ◌⊎◌, ℕ, ◌+◌, ◌<◌, ◌^◌, true, List, [], ◌∷◌, ◌++◌, length, map}
use Rattle.std.specs.Prelude.{fold, sum_by, IsSome}
use Rattle.std.specs.List.{AllByRecursion}
use mathlib.Core.List.{IsPrefix}
use Rattle.addr_book.specs.BookFault.{set_refusal}
use Rattle.machine.specs.State.{after, is_accepted, last_place, opening}
use Rattle.machine.specs.Values.{ChangeValue, SettingsValue, StateValue, set_addrs}
use Rattle.router_log.specs.Operation.{Operation, changed}
use Rattle.router_log.specs.Value.{value_of}
use Rattle.linker_config.specs.declared.loaded.LoadedItem.{LoadedItem}
use Rattle.router.specs.declared.naming.Naming.{Ghosts}
use Rattle.router.specs.declared.pass.Pass.{Pass}
use Rattle.router.specs.Passes.{made_in, seen_in}

-- these changes stand in a list of operations, in this order
abbrev pub StandIn : List Operation → List ChangeValue → Type 0
StandIn ops [] = Unit {0}
StandIn ops (c ∷ cs) =
    (before : List Operation) × (caller : ℕ) × (serial : ℕ) × (behind : List Operation)
    × (ops ≡ before ++ changed caller serial c ∷ behind) × StandIn behind cs

-- a change was added to a list, behind what else was added before it
abbrev pub IsAdded : List Operation → List Operation → ChangeValue → Type 0
IsAdded old new change =
    (before : List Operation) × (caller : ℕ) × (serial : ℕ) × IsPrefix old before
    × (new ≡ before ++ changed caller serial change ∷ [])

-- the change that sets a service
abbrev pub setting : LoadedItem → ChangeValue
setting item = set_addrs item.service item.list

-- each of these changes is accepted, in the state behind those before it
abbrev pub AreAccepted : SettingsValue → StateValue → List ChangeValue → Type 0
AreAccepted settings state [] = Unit {0}
AreAccepted settings state (c ∷ cs) =
    (is_accepted state c ≡ true) × AreAccepted settings (after settings state c) cs

-- the state behind services that were set one after another, from the beginning
abbrev pub state_behind : SettingsValue → List LoadedItem → StateValue
state_behind settings done = fold (after settings) opening (map setting done)

-- the book has no room for a service: there are too many others, or there would be too many
-- addresses
abbrev pub HasNoRoom : StateValue → LoadedItem → Type 0
HasNoRoom state item = IsSome (set_refusal state.book item.service item.list)

-- services are set in their order: these are accepted, and the book has no room for the next one
pub record BookRefuses (settings : SettingsValue) (loaded : List LoadedItem) : Type 0 where
  pub done : List LoadedItem
  pub refused : LoadedItem
  pub rest : List LoadedItem
  pub parts : done ++ refused ∷ rest ≡ loaded
  pub accepted : AreAccepted settings opening (map setting done)
  pub cause : HasNoRoom (state_behind settings done) refused

-- a service is refused: the book has no room for it, or the history for one more change
abbrev pub IsTurnedAway : StateValue → LoadedItem → Type 0
IsTurnedAway state item = HasNoRoom state item ⊎ (state.place ≡ last_place)

-- Services were set in their order until one was refused, in the state that this list comes to.
-- Those before it stand there, and so many changes more were made
pub record StopsAt (settings : SettingsValue) (loaded : List LoadedItem) (ops : List Operation)
    (made made_then : ℕ) : Type 0 where
  pub done : List LoadedItem
  pub refused : LoadedItem
  pub rest : List LoadedItem
  pub parts : done ++ refused ∷ rest ≡ loaded
  pub few : length loaded < 2 ^ 64
  pub stand : StandIn ops (map setting done)
  pub count : made_then ≡ made + length done
  pub cause : IsTurnedAway (value_of settings ops).state refused

module _ {J : Type 0} {g : Ghosts J} where
  -- a pass has seen these services set, in their order
  abbrev pub HasSeen : List LoadedItem → Pass J g → Type 0
  HasSeen loaded p = StandIn (seen_in p) (map setting loaded)

  abbrev pub HaveSeen : List LoadedItem → List (Pass J g) → Type 0
  HaveSeen loaded ps = AllByRecursion (HasSeen loaded) ps

  -- services were set by one of these passes until one was refused, and then they all saw it
  pub record StopsAmong (loaded : List LoadedItem) (passes met : List (Pass J g)) : Type 0 where
    pub seen : List Operation
    pub stops : StopsAt g.settings loaded seen (sum_by made_in passes) (sum_by made_in met)
    pub seen_by_all : AllByRecursion (λ p. IsPrefix seen (seen_in p)) met
