-- The state of a value, taken out of it, and what is answered in it.
use Rattle.std.specs.Prelude.{◌≡◌, ℕ, true, false, List, Option, Some, None}
use Rattle.std.specs.Arc.{arc_value}
use Rattle.machine.specs.Code.{settings_of, state_of}
use Rattle.machine.specs.Values.{SettingsValue, StateValue, AskValue}
use Rattle.bind_cache.specs.Stored.{kept_of}
use Rattle.bind_cache.specs.declared.binding.Binding.{Binding}
use Rattle.router_log.specs.Value.{Value}
use Rattle.router.specs.declared.answer.Answer.{Answer}
use Rattle.router.specs.declared.picking.CacheLookup.{CacheLookup}
use Rattle.router.specs.declared.picking.CacheLookup.TheVariants as lookup
use Rattle.router.specs.declared.detached.Detached.{Detached}
use Rattle.router.specs.Chosen.{IsPermitted}
use Rattle.router.specs.Picked.{IsAnswer, IsAsked, IsWorkedOut, is_kept_for, is_let_in, said_by}
use Rattle.router.specs.Picked.{loads_by, place_by, fresh_by}

abbrev pub settings_out : Detached → SettingsValue
settings_out d = settings_of (arc_value d.settings)

abbrev pub state_out : Detached → StateValue
state_out d = state_of d.state

-- it is the state of this value, with its settings
pub record IsOut (settings : SettingsValue) (state : StateValue) (d : Detached) : Type 0 where
  pub settings_are : settings_out d ≡ settings
  pub state_is : state_out d ≡ state

-- the delegation that is given is the ask's, worked out in this state
abbrev pub IsNew : SettingsValue → StateValue → AskValue → Option Binding → Type 0
IsNew settings state ask None = ⊥
IsNew settings state ask (Some b) = IsAsked ask (kept_of b) × IsWorkedOut settings state (kept_of b)

-- the right answer in this state by a delegation, which it gives
pub record IsDelegatedAnswer (settings : SettingsValue) (state : StateValue) (ask : AskValue)
    (before after : List (ℕ × ℕ)) (a : Answer) : Type 0 where
  pub let_in : is_let_in a ≡ true
  pub permitted : IsPermitted settings state ask before after (loads_by a) (said_by a)
  pub at_place : place_by a ≡ state.place
  pub fresh : IsNew settings state ask (fresh_by a)

-- nothing is kept for the ask in this value, of which this is the state, and no load was read
pub record IsMissed (settings : SettingsValue) (value : Value) (place : ℕ) (ask : AskValue)
    (before after : List (ℕ × ℕ)) (d : Detached) : Type 0 where
  pub none : is_kept_for value ask ≡ false
  pub unread : after ≡ before
  pub at_place : place ≡ value.state.place
  pub out : IsOut settings value.state d

-- what a pick comes to by what a value keeps: the answer, by what is kept for it; or, exactly where
-- nothing is kept for it, the state to delegate in
abbrev pub IsLookedUp : SettingsValue → Value → ℕ → AskValue → List (ℕ × ℕ) → List (ℕ × ℕ)
    → CacheLookup → Type 0
IsLookedUp settings value place ask before after (lookup.Hit a) =
    (is_kept_for value ask ≡ true) × IsAnswer settings value place ask before after a
IsLookedUp settings value place ask before after (lookup.Miss d) =
    IsMissed settings value place ask before after d
