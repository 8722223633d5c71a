-- What pruning leaves of a bound, and which leaf of it a word chooses.
use Rattle.std.specs.Prelude.{ℕ, ◌+◌, ◌-◌, ◌*◌, ◌/◌, ◌%◌, ◌^◌, nat_lt, Bool, true, false}
use Rattle.std.specs.Prelude.{if◌then◌else◌, List, [], ◌∷◌, Option, Some, None, option_and_then}
use Rattle.std.specs.FinMap.{get}
use Rattle.addr_book.specs.declared.addr.Weighted.{Weighted}
use Rattle.addr_book.specs.declared.leaf.Leaf.{Leaf}
use Rattle.addr_book.specs.declared.leaf.Cluster.{Cluster}
use Rattle.addr_book.specs.declared.leaf.Cluster.TheVariants.{Inet, Fs}
use Rattle.addr_book.specs.Book.{Services}
use Rattle.addr_book.specs.Found.{Found, one, many, FoundList, no_member, member}

-- whether a service has an address, if it is there
abbrev pub has_some : Option (List Weighted) → Bool
has_some None = false
has_some (Some []) = false
has_some (Some (item ∷ list)) = true

-- whether a leaf has an address to go to
abbrev pub is_open : Services → Cluster → Bool
is_open services (Inet addr) = true
is_open services (Fs name) = has_some (get services name)

-- the members with this one before them, if something is left of it
abbrev pub kept_member : ℕ → Option Found → FoundList → FoundList
kept_member weight None ms = ms
kept_member weight (Some found) ms = member weight found ms

-- a union, if a member is left
abbrev pub kept_union : FoundList → Option Found
kept_union no_member = None
kept_union (member weight found ms) = Some (many (member weight found ms))

abbrev mutual
  -- without the leaves whose service has no address, and then without branches of which nothing is
  -- left
  pub pruned : Services → Found → Option Found
  pruned services (one leaf) = if is_open services leaf.cluster then Some (one leaf) else None
  pruned services (many ms) = kept_union (pruned_members services ms)

  pub pruned_members : Services → FoundList → FoundList
  pruned_members services no_member = no_member
  pruned_members services (member weight found ms) =
      kept_member weight (pruned services found) (pruned_members services ms)

-- the sum of the weights of a union's members
abbrev pub total_weight : FoundList → ℕ
total_weight no_member = 0
total_weight (member weight found ms) = weight + total_weight ms

abbrev mutual
  -- the leaf that a word chooses: at a union the word is scaled to the sum of the weights, and what
  -- is left of it goes on to the next one below
  pub branch_of : Found → ℕ → Option Leaf
  branch_of (one leaf) word = Some leaf
  branch_of (many ms) word =
      branch_over ms (word * total_weight ms / 2 ^ 64) (word * total_weight ms % 2 ^ 64)

  -- of the first member whose cumulative weight exceeds a number
  pub branch_over : FoundList → ℕ → ℕ → Option Leaf
  branch_over no_member n word = None
  branch_over (member weight found ms) n word =
      if nat_lt n weight then branch_of found word else branch_over ms (n - weight) word

-- the leaf that a word chooses in what pruning leaves, if it leaves something
abbrev pub chosen : Services → Found → ℕ → Option Leaf
chosen services found word = option_and_then (λ left. branch_of left word) (pruned services found)
