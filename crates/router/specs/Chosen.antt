-- When a pick's answer is the right one for the loads that were read.
use Rattle.std.specs.Prelude.{◌≡◌, ℕ, ◌<◌, ◌++◌, List, IfSome}
use Rattle.machine.specs.Choosing.{Permits, offer_of}
use Rattle.machine.specs.Values.{SettingsValue, StateValue, AskValue, PickValue, replica, none}
use Rattle.router.specs.declared.choosing.Decision.{Decision}
use Rattle.router.specs.declared.choosing.Decision.TheVariants as decision
use Rattle.router.specs.Loads.{reads_at, AreLoadsAt}

-- the slot of a replica, where it has one, is that of a load word
abbrev pub HasWord : PickValue → Type 0
HasWord (replica r) = IfSome r.slot (λ slot. slot < 8192)
HasWord (none why) = Unit {0}

-- with these two loads just this answer is permitted. The loads are those of the two replicas'
-- slots, which were read then, the first one's first, where they are of a service; else nothing was
-- read, and both count as 0
pub record IsPermitted (settings : SettingsValue) (state : StateValue) (ask : AskValue)
    (before after : List (ℕ × ℕ)) (loads : ℕ × ℕ) (said : PickValue) : Type 0 where
  pub permitted : Permits settings state ask loads.0 loads.1 said
  pub reads : after ≡ before ++ reads_at (offer_of settings state ask) loads
  pub loads_are : AreLoadsAt (offer_of settings state ask) loads
  pub word : HasWord said

-- what the code's decisions say
abbrev pub decision_value : Decision → PickValue
decision_value (decision.Taken taken leaf first second) =
    replica (record {
      addr = taken.addr;
      slot = taken.slot;
      client = leaf.now.client;
      residual = leaf.now.residual;
    })
decision_value (decision.None why) = none why

-- the loads that were found
abbrev pub decision_loads : Decision → ℕ × ℕ
decision_loads (decision.Taken taken leaf first second) = (first, second)
decision_loads (decision.None why) = (0, 0)
