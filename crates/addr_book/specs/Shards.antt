-- A finite map in shards: maps of which each has the keys of its own place.
use Rattle.std.specs.Prelude.{◌≡◌, ℕ, ◌+◌, true, List, [], ◌∷◌, ◌++◌, length, map, slice_set}
use Rattle.std.specs.Prelude.{Option}
use Rattle.std.specs.declared.cmp.Ordering.{Ordering}
use Rattle.std.specs.FinMap.{FinMap, entries, from_entries, contains_key}

-- the entries of all shards
abbrev pub joined : {K V : Type 0} {R : K → K → Ordering} → List (FinMap R V) → List (K × V)
joined [] = []
joined (shard ∷ shards) = entries shard ++ joined shards

-- the keys of all shards
abbrev pub joined_keys : {K V : Type 0} {R : K → K → Ordering} → List (FinMap R V) → List K
joined_keys shards = map (λ entry. entry.0) (joined shards)

-- the map of them all
abbrev pub whole : {K V : Type 0} {R : K → K → Ordering} → List (FinMap R V) → FinMap R V
whole shards = from_entries (joined shards)

-- from a place on, each shard has only keys whose place is its own
abbrev pub AreHome : {K V : Type 0} {R : K → K → Ordering} → (K → ℕ) → ℕ → List (FinMap R V)
    → Type 0
AreHome home at [] = Unit {0}
AreHome {K} home at (shard ∷ shards) =
    ((key : K) → contains_key shard key ≡ true → home key ≡ at) × AreHome home (at + 1) shards

-- so many shards, each with the keys of its own place
pub record IsSharded {K V : Type 0} {R : K → K → Ordering} (home : K → ℕ) (count : ℕ)
    (shards : List (FinMap R V)) : Type 0 where
  pub long : length shards ≡ count
  pub placed : AreHome home 0 shards

-- the shards are as before, but for the one at a place, which has this
pub record IsChanged {K V T : Type 0} {R : K → K → Ordering} (shard : Option T → FinMap R V)
    (before after : List (Option T)) (place : ℕ) (now : FinMap R V) : Type 0 where
  pub new : Option T
  pub changed : after ≡ slice_set before place new
  pub has : shard new ≡ now
