-- When a pick by what is kept alone is answered rightly.
use Rattle.std.specs.Prelude.{◌≡◌, ℕ, ◌<◌, ◌++◌, true, false, List, [], IfSome}
use Rattle.name_tree.specs.Path.{canon_path}
use Rattle.machine.specs.Choosing.{offer_of, pick_of}
use Rattle.machine.specs.Values.{SettingsValue, AskValue, PickValue, replica, none}
use Rattle.router_log.specs.Value.{Value}
use Rattle.router.specs.declared.answer.Peek.{Peek}
use Rattle.router.specs.declared.answer.Peek.TheVariants as peek
use Rattle.router.specs.declared.names.Names.{Names}
use Rattle.router.specs.Loads.{reads_at, AreLoadsAt}
use Rattle.router.specs.Names.{client_text, residual_text}
use Rattle.router.specs.Picked.{is_kept_for}

abbrev pub AreEmpty : Names → Type 0
AreEmpty names = (client_text names ≡ []) × (residual_text names ≡ [])

-- this was said, and the names of the replica were written
abbrev pub IsSaid : PickValue → Peek → Names → Type 0
IsSaid (replica r) (peek.Hit choice) names =
    (choice.addr ≡ r.addr) × (choice.slot ≡ r.slot) × (client_text names ≡ canon_path r.client)
    × (residual_text names ≡ canon_path r.residual)
IsSaid (none why) (peek.HitNone why' place) names = (why' ≡ why) × AreEmpty names
IsSaid _ _ names = ⊥

-- the slot of the replica, where it has one, is that of a load word
abbrev pub HasWord : Peek → Type 0
HasWord (peek.Hit choice) = IfSome choice.slot (λ slot. slot < 8192)
HasWord _ = Unit {0}

-- with these two loads just this is permitted. They are those of the two replicas' slots, which
-- were read then, or 0 where there are none
pub record IsHit (settings : SettingsValue) (value : Value) (ask : AskValue)
    (before after : List (ℕ × ℕ)) (loads : ℕ × ℕ) (names : Names) (p : Peek) : Type 0 where
  pub is_kept : is_kept_for value ask ≡ true
  pub said : IsSaid (pick_of settings value.state ask loads.0 loads.1) p names
  pub reads : after ≡ before ++ reads_at (offer_of settings value.state ask) loads
  pub loads_are : AreLoadsAt (offer_of settings value.state ask) loads
  pub word : HasWord p

-- the right answer in this value, at this place of the history. It misses exactly where nothing is
-- kept for the ask, and then nothing is read or written
abbrev pub IsPeek : SettingsValue → Value → ℕ → AskValue → List (ℕ × ℕ) → List (ℕ × ℕ) → Names
    → Peek → Type 0
IsPeek settings value place ask before after names (peek.Hit choice) =
    IsHit settings value ask before after (choice.first, choice.second) names (peek.Hit choice)
    × (choice.place ≡ place)
IsPeek settings value place ask before after names (peek.HitNone why at) =
    IsHit settings value ask before after (0, 0) names (peek.HitNone why at) × (at ≡ place)
IsPeek settings value place ask before after names (peek.Miss at) =
    (is_kept_for value ask ≡ false) × (after ≡ before) × (at ≡ place) × AreEmpty names
IsPeek settings value place ask before after names peek.NoEntry = ⊥
