-- The parts of an index.
use Rattle.std.specs.Prelude.{◌≡◌, ℕ, ◌+◌, ◌<◌, List, [], ◌∷◌, ◌++◌, length, Some}
use Rattle.std.specs.List.{slice_get}
use Rattle.dtab_index.specs.Index.{Placed}
use Rattle.dtab_index.specs.Part.{placed_in, IsKept}
use Rattle.dtab_index.specs.declared.part.Part.{Part}

-- the prefixes of some parts
abbrev pub placed_by : List Part → List Placed
placed_by [] = []
placed_by (p ∷ ps) = placed_in p.entries.items ++ placed_by ps

abbrev pub AreKept : List Part → Type 0
AreKept parts =
    (k : ℕ) (part : Part) → slice_get parts k ≡ Some part
    → IsKept part.entries.items part.columns.items

-- a place is that of the last part, and there is room for a prefix in it
pub record HasRoom (parts : List Part) (place : ℕ) : Type 0 where
  pub last : place + 1 ≡ length parts
  pub room : (part : Part) → slice_get parts place ≡ Some part → length part.entries.items < 1024
