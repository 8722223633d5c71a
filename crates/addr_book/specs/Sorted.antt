-- Finite maps that lie as lists in the order of their keys, and places in such lists.
use Rattle.std.specs.Prelude.{◌≡◌, ℕ, ◌<◌, ◌≤◌, List, length, map, slice_index_or, IsTrue}
use Rattle.std.specs.declared.cmp.Ordering.{Ordering}
use Rattle.std.specs.declared.cmp.Ordering.TheVariants.{Less, Equal, Greater}
use Rattle.std.specs.FinMap.{FinMap, is_sorted, from_sorted}

-- the map of some items, each of which stands for a key and a value
abbrev pub map_of : {A K X : Type 0} {R : K → K → Ordering} → (A → K × X) → List A → FinMap R X
map_of entry items = from_sorted (map entry items)

-- the keys rise
abbrev pub IsInOrder : {A K X : Type 0} → (K → K → Ordering) → (A → K × X) → List A → Type 0
IsInOrder R entry items = IsTrue (is_sorted R (map entry items))

-- the key is at the place
pub record IsPlace {A K X : Type 0} (R : K → K → Ordering) (entry : A → K × X) (items : List A)
    (key : K) (at : ℕ) : Type 0 where
  pub within : at < length items
  pub here : (d : A) → R (entry (slice_index_or items at d)).0 key ≡ Equal

-- the keys before the place are below this one, and those from it on are above
pub record IsGap {A K X : Type 0} (R : K → K → Ordering) (entry : A → K × X) (items : List A)
    (key : K) (at : ℕ) : Type 0 where
  pub within : at ≤ length items
  pub before : (k : ℕ) (d : A) → k < at → R (entry (slice_index_or items k d)).0 key ≡ Less
  pub behind : (k : ℕ) (d : A) → at ≤ k → k < length items
      → R (entry (slice_index_or items k d)).0 key ≡ Greater
