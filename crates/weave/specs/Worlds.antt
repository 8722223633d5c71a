-- What holds of a world between its steps.
use Rattle.std.specs.Prelude.{◌≡◌, ℕ, List, ◌++◌, slice_get, Some}
use Rattle.addr_book.specs.Namer.{named_in}
use Rattle.bind_cache.specs.Kept.{Kept, IsRight}
use Rattle.machine.specs.Values.{SettingsValue}
use Rattle.router_log.specs.Operation.{Operation, place_of}
use Rattle.router_log.specs.Value.{value_of, opening_value, standing_rules, AllFit}
use Rattle.weave.specs.World.{PassValue, WorldValue}
use Rattle.weave.specs.Laws.{IsPass}

module _ (settings : SettingsValue) where
  -- a delegation was right where it was worked out, in a beginning of what was published
  pub record WasRight (ops : List Operation) (k : Kept) : Type 0 where
    pub front : List Operation
    pub rest : List Operation
    pub is : front ++ rest ≡ ops
    pub place : k.place ≡ place_of front
    pub right : IsRight (standing_rules settings (value_of settings front).state)
        (named_in (value_of settings front).state.book) k

  pub record PassOk (ops : List Operation) (number : ℕ) (p : PassValue) : Type 0 where
    pub pass : IsPass settings ops number p
    pub fresh : (k : Kept) → p.fresh ≡ Some k → WasRight ops k

  abbrev pub AllOk : List Operation → List PassValue → Type 0
  AllOk ops passes =
      (number : ℕ) (p : PassValue) → slice_get passes number ≡ Some p → PassOk ops number p

  pub record IsWorld (w : WorldValue) : Type 0 where
    pub fit : AllFit settings opening_value w.ops
    pub all : AllOk w.ops w.passes
