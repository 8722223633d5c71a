-- Passes that no stay has in use.
use Rattle.std.specs.Prelude.{◌≡◌, List, None}
use Rattle.std.specs.List.{AllByRecursion}
use Rattle.router.specs.declared.naming.Naming.{Ghosts}
use Rattle.router.specs.declared.pass.Pass.{Pass}
use Rattle.router.specs.Passes.{slot_in}

module _ {J : Type 0} {g : Ghosts J} where
  -- it holds no slot
  abbrev pub IsFree : Pass J g → Type 0
  IsFree p = slot_in p ≡ None

  abbrev pub AreFree : List (Pass J g) → Type 0
  AreFree ps = AllByRecursion IsFree ps
