-- What a delegation finds.
use Rattle.std.specs.Prelude.{ℕ, ◌+◌, ◌<◌, ◌≤◌, List, [], ◌∷◌}
use Rattle.name_tree.specs.Canon.{most_members, weight_bound}
use Rattle.addr_book.specs.declared.leaf.Leaf.{Leaf}

mutual
  -- the replicas that a delegation finds: those of a leaf, or of the members of a union
  pub data Found : Type 0 where
    one : Leaf → Found
    many : FoundList → Found

  -- the members of a union in order, each with its weight in millionths
  pub data FoundList : Type 0 where
    no_member : FoundList
    member : ℕ → Found → FoundList → FoundList

-- members, in the order of a list
abbrev pub members : List (ℕ × Found) → FoundList
members [] = no_member
members (m ∷ ms) = member m.0 m.1 (members ms)

-- how many members a union has
abbrev pub count_members : FoundList → ℕ
count_members no_member = 0
count_members (member n f ms) = 1 + count_members ms

abbrev mutual
  -- each union has a member, and no weight is 0
  pub IsFilled : Found → Type 0
  IsFilled (one leaf) = Unit {0}
  IsFilled (many ms) = (1 ≤ count_members ms) × AreFilled ms

  pub AreFilled : FoundList → Type 0
  AreFilled no_member = Unit {0}
  AreFilled (member n f ms) = (0 < n) × IsFilled f × AreFilled ms

abbrev mutual
  -- no union has more members than a union of a table's text, and no weight is larger than one of a
  -- table's text
  pub IsBounded : Found → Type 0
  IsBounded (one leaf) = Unit {0}
  IsBounded (many ms) = (count_members ms ≤ most_members) × AreBounded ms

  pub AreBounded : FoundList → Type 0
  AreBounded no_member = Unit {0}
  AreBounded (member n f ms) = (n < weight_bound) × IsBounded f × AreBounded ms
