-- When a pick is answered rightly.
use Rattle.std.specs.Prelude.{◌≡◌, ℕ, ◌-◌, ◌^◌, min, Bool, true, false, List, Option, Some, None}
use Rattle.std.specs.Prelude.{is_some}
use Rattle.addr_book.specs.Namer.{named_in}
use Rattle.bind_cache.specs.Kept.{IsRight, Kept}
use Rattle.bind_cache.specs.Cache.{found_in}
use Rattle.bind_cache.specs.Sizes.{text_bytes}
use Rattle.bind_cache.specs.Stored.{kept_of}
use Rattle.bind_cache.specs.declared.binding.Binding.{Binding}
use Rattle.machine.specs.declared.chosen.Why.TheVariants.{Neg}
use Rattle.machine.specs.Values.{SettingsValue, StateValue, AskValue, PickValue, replica, none}
use Rattle.router_log.specs.Value.{Value, standing_rules}
use Rattle.router.specs.declared.answer.Answer.{Answer}
use Rattle.router.specs.declared.answer.Answer.TheVariants as answer
use Rattle.router.specs.Chosen.{IsPermitted}

-- a delegation of a path, with a request's own rules, as it is worked out in a state
pub record IsWorkedOut (settings : SettingsValue) (state : StateValue) (k : Kept) : Type 0 where
  pub right : IsRight (standing_rules settings state) (named_in state.book) k
  pub bytes : k.bytes ≡ min (text_bytes k.path k.local k.asked) (2 ^ 64 - 1)
  pub place : k.place ≡ state.place

-- it is that of an ask
pub record IsAsked (ask : AskValue) (k : Kept) : Type 0 where
  pub path : k.path ≡ ask.path
  pub local : k.local ≡ ask.own

-- whether something is kept for an ask
abbrev pub is_kept_for : Value → AskValue → Bool
is_kept_for value ask = is_some (found_in value.cache ask.path ask.own)

-- a delegation is given just where nothing was kept for the ask, and then it is the ask's, worked
-- out in this state
abbrev pub IsFresh : SettingsValue → Value → AskValue → Option Binding → Type 0
IsFresh settings value ask None = is_kept_for value ask ≡ true
IsFresh settings value ask (Some b) =
    (is_kept_for value ask ≡ false) × IsAsked ask (kept_of b)
    × IsWorkedOut settings value.state (kept_of b)

-- whether the pass was let in
abbrev pub is_let_in : Answer → Bool
is_let_in answer.NoEntry = false
is_let_in _ = true

-- what an answer says, where it was
abbrev pub said_by : Answer → PickValue
said_by (answer.Picked choice client residual fresh) =
    replica (record {
      addr = choice.addr;
      slot = choice.slot;
      client = client;
      residual = residual;
    })
said_by (answer.None why place fresh) = none why
said_by answer.NoEntry = none Neg

-- by which loads
abbrev pub loads_by : Answer → ℕ × ℕ
loads_by (answer.Picked choice client residual fresh) = (choice.first, choice.second)
loads_by _ = (0, 0)

-- at which place
abbrev pub place_by : Answer → ℕ
place_by (answer.Picked choice client residual fresh) = choice.place
place_by (answer.None why place fresh) = place
place_by answer.NoEntry = 0

-- with which delegation
abbrev pub fresh_by : Answer → Option Binding
fresh_by (answer.Picked choice client residual fresh) = fresh
fresh_by (answer.None why place fresh) = fresh
fresh_by answer.NoEntry = None

-- the right answer in this value, at this place of the history, with what was read of the loads for
-- it
pub record IsAnswer (settings : SettingsValue) (value : Value) (place : ℕ) (ask : AskValue)
    (before after : List (ℕ × ℕ)) (a : Answer) : Type 0 where
  pub let_in : is_let_in a ≡ true
  pub permitted : IsPermitted settings value.state ask before after (loads_by a) (said_by a)
  pub at_place : place_by a ≡ place
  pub fresh : IsFresh settings value ask (fresh_by a)
