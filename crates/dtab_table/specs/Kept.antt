-- What a table keeps beside its entries.
use Rattle.std.specs.Prelude.{◌≡◌, ℕ, ◌<◌, ◌^◌, List, [], ◌∷◌, length, Option, Some, None}
use Rattle.name_tree.specs.Value.{TreeValue}
use Rattle.name_tree.specs.Tree.{value_of}
use Rattle.name_tree.specs.Lean.{lean}
use Rattle.name_tree.specs.declared.tree.Tree.{Tree}
use Rattle.dtab_index.specs.Index.{Placed}
use Rattle.dtab_table.specs.declared.entry.Entry.{Entry}
use Rattle.dtab_table.specs.Rules.{placed_from}

-- of how many entries each is compared with a path, in place of a look-up
abbrev pub few_entries : ℕ
few_entries = 8

-- the lean tree of an entry: one that stands beside it, or its own
abbrev pub lean_value : Entry → Option Tree → TreeValue
lean_value e None = value_of e.tree
lean_value e (Some tree) = value_of tree

-- each entry has its lean tree
abbrev pub AreLean : List Entry → List (Option Tree) → Type 0
AreLean [] [] = Unit {0}
AreLean [] (l ∷ ls) = ⊥
AreLean (e ∷ es) [] = ⊥
AreLean (e ∷ es) (l ∷ ls) = (lean_value e l ≡ lean (value_of e.tree)) × AreLean es ls

-- where there are more than a few entries, their prefixes are in the index, by their places
abbrev pub IsIndexed : List Entry → List Placed → Type 0
IsIndexed entries index = few_entries < length entries → index ≡ placed_from 0 entries

pub record IsKept (entries : List Entry) (leaner : List (Option Tree)) (index : List Placed) : Type
    0 where
  pub few : length entries < 2 ^ 32
  pub lean : AreLean entries leaner
  pub indexed : IsIndexed entries index
