-- Namespaces of the code as a finite map, and places among them.
use Rattle.std.specs.Prelude.{◌≡◌, ℕ, ◌<◌, ◌≤◌, List, length, map, slice_index_or}
use Rattle.std.specs.declared.cmp.Ordering.TheVariants.{Less, Equal, Greater}
use Rattle.std.specs.Ordering.{nat_cmp}
use Rattle.std.specs.Cmp.Lexicographic.{slice_cmp}
use Rattle.std.specs.FinMap.{from_sorted}
use Rattle.ns_store.specs.declared.namespace.Namespace.{Namespace}
use Rattle.ns_store.specs.declared.spaces.Spaces.{Spaces}
use Rattle.ns_store.specs.Contents.{Spaces as SpaceMap}
use Rattle.ns_store.specs.Namespace.{entry_of}

abbrev pub spaces_of : Spaces → SpaceMap
spaces_of spaces = from_sorted (map entry_of spaces.items.items)

-- the namespace at the place has the name
pub record IsPlace (spaces : Spaces) (name : List ℕ) (at : ℕ) : Type 0 where
  pub within : at < length spaces.items.items
  pub here : (d : Namespace)
      → slice_cmp nat_cmp (slice_index_or spaces.items.items at d).name name ≡ Equal

-- the names before the place are below the name, and those from it on are above
pub record IsGap (spaces : Spaces) (name : List ℕ) (at : ℕ) : Type 0 where
  pub within : at ≤ length spaces.items.items
  pub before : (k : ℕ) (d : Namespace) → k < at
      → slice_cmp nat_cmp (slice_index_or spaces.items.items k d).name name ≡ Less
  pub behind : (k : ℕ) (d : Namespace) → at ≤ k → k < length spaces.items.items
      → slice_cmp nat_cmp (slice_index_or spaces.items.items k d).name name ≡ Greater
