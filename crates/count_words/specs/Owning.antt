-- Words that one seat each writes, what seats know of them, and what one step does to that.
use Rattle.std.specs.Prelude.{◌≡◌, ℕ, ◌+◌, ◌<◌, ◌≤◌, ◌&&◌, nat_le, nat_lt, if◌then◌else◌}
use Rattle.std.specs.Prelude.{List, [], ◌∷◌, ◌++◌, All, drop, length, replicate, slice_index_or}
use Rattle.std.specs.Prelude.{slice_set, take}
use mathlib.Core.Option.{some}
use lib.ListN.{get_elem?}
use Rattle.atomic_table.specs.Table.{State}
use Rattle.count_words.specs.declared.rule.Knowledge.{Knowledge}

-- how many words a worker has: eight lines of a cache
abbrev pub places : ℕ
places = 64

-- 1 if the word k is a seat's own, and else 0
abbrev pub owns_one : ℕ → Knowledge → ℕ
owns_one k v = if nat_le v.first k && nat_lt k (v.first + length v.counts) then 1 else 0

-- how many seats own the word k
abbrev pub owners : ℕ → List Knowledge → ℕ
owners k [] = 0
owners k (v ∷ vs) = owns_one k v + owners k vs

-- a seat's own words are what it wrote last
abbrev pub Owns : List ℕ → Knowledge → Type 0
Owns words v =
    (k : ℕ) → k < length v.counts
    → (v.first + k < length words)
    × (slice_index_or words (v.first + k) 0 ≡ slice_index_or v.counts k 0)

-- what a seat found is not above what stands there now
abbrev pub HasRead : List ℕ → Knowledge → Type 0
HasRead words v = All (λ r. r.1 ≤ slice_index_or words r.0 0) v.reads

-- Each word has one owner at most, and is what that wrote last. Words only grow
pub record OwnersCount (size : ℕ) (s : State (Unit {0}) Knowledge) : Type 0 where
  pub words : length s.words ≡ size
  pub one : (k : ℕ) → owners k s.views ≤ 1
  pub own : (id : ℕ) (v : Knowledge) → get_elem? s.views id ≡ some v → Owns s.words v
  pub read : (id : ℕ) (v : Knowledge) → get_elem? s.views id ≡ some v → HasRead s.words v

-- the first seat owns all words
abbrev pub opened : ℕ → Knowledge
opened size = record { first = 0; counts = replicate size 0; reads = [] }

-- a worker's words go to a new seat
abbrev pub behind_worker : Knowledge → Knowledge
behind_worker v = record v { first = v.first + places; counts = drop places v.counts }

abbrev pub worker_of : Knowledge → Knowledge
worker_of v = record { first = v.first; counts = take places v.counts; reads = [] }

-- a new seat that owns nothing
abbrev pub as_it_is : Knowledge → Knowledge
as_it_is v = v

abbrev pub nothing : Knowledge → Knowledge
nothing v = record { first = 0; counts = []; reads = [] }

-- load: the number found is not below any that the seat found there before
abbrev pub Loaded : ℕ → ℕ → Knowledge → Knowledge → Type 0
Loaded word found old new =
    (new ≡ record old { reads = old.reads ++ (word, found) ∷ [] })
    × All (λ r. r.0 ≡ word → r.1 ≤ found) old.reads

-- store, to the seat's own word at a place
abbrev pub Stored : ℕ → ℕ → Knowledge → Knowledge → Type 0
Stored word amount old new =
    (place : ℕ) → old.first + place ≡ word
    → new ≡ record old { counts = slice_set old.counts place amount }
