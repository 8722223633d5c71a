-- The prefixes of a table in an index.
use Rattle.std.specs.Prelude.{◌≡◌, ◌⊎◌, ℕ, zero, suc, ◌<◌, Bool, true, List, [], ◌∷◌, length, map}
use Rattle.std.specs.Prelude.{Some, None, slice_index_or}
use Rattle.std.specs.List.{Contains}
use Rattle.name_tree.specs.Path.{Labels}
use Rattle.dtab_index.specs.Index.{Placed, matches}
use Rattle.dtab_table.specs.Pattern.{Pattern}
use Rattle.dtab_table.specs.declared.entry.Entry.{Entry}
use Rattle.dtab_check.specs.declared.indexed.IndexedEntries.{IndexedEntries}
use Rattle.dtab_check.specs.Live.{some_leaf}
use Rattle.dtab_check.specs.Rounds.{holds}

-- the prefix of the entry at a position
abbrev pub prefix_at : List Entry → ℕ → List Pattern
prefix_at [] at = []
prefix_at (e ∷ es) zero = e.prefix
prefix_at (e ∷ es) (suc at) = prefix_at es at

-- each prefix in an index is that of the entry at its position
abbrev pub AreOf : List Entry → List Placed → Type 0
AreOf entries index =
    (p : Placed) → Contains index p → (p.1 < length entries) × (prefix_at entries p.1 ≡ p.0)

-- the prefix of each of the first entries is in an index, at the position that is noted for it
abbrev pub AreNoted : List Entry → List Placed → List ℕ → Type 0
AreNoted entries index first =
    (at : ℕ) → at < length first → Contains index (prefix_at entries at, slice_index_or first at 0)

-- the prefixes of all entries are in the index
pub record IsIndexed (indexed : IndexedEntries) : Type 0 where
  pub entries : AreOf indexed.entries.now indexed.index
  pub noted : AreNoted indexed.entries.now indexed.index indexed.first.items
  pub whole : length indexed.first.items ≡ length indexed.entries.now

-- these are the positions in an index of the prefixes that match some of these leaves
pub record AreMet (index : List Placed) (leaves : List Labels) (met : List Bool) : Type 0 where
  pub sound : (at : ℕ) → holds met at ≡ true
      → (prefix : List Pattern) × Contains index (prefix, at)
      × (some_leaf (matches prefix) leaves ≡ true)
  pub whole : (p : Placed) → Contains index p → some_leaf (matches p.0) leaves ≡ true
      → holds met p.1 ≡ true

-- some places are marked, and no others beside those that were
pub record Marks (old new : List Bool) (places : List ℕ) : Type 0 where
  pub kept : (at : ℕ) → holds old at ≡ true → holds new at ≡ true
  pub marked : (at : ℕ) → Contains places at → holds new at ≡ true
  pub only : (at : ℕ) → holds new at ≡ true → (holds old at ≡ true) ⊎ Contains places at
