-- What a union keeps of its branches while they are evaluated.
use Rattle.std.specs.Prelude.{ℕ, Bool, true, false, List, [], ◌∷◌, ◌++◌, map}
use Rattle.bind_core.specs.declared.gathered.Gathered.{Gathered}
use Rattle.addr_book.specs.Found.{Found}
use Rattle.addr_book.specs.Bound.{item_found}
use Rattle.bind_core.specs.Delegation.{Ending, negative, failing, no_replica, too_deep, too_wide}
use Rattle.bind_core.specs.Delegation.{bound, kept}

-- what the bound ones find, with their weights; whether one fails, and whether one has no replica
pub record Kept : Type 0 where
  pub found : List (ℕ × Found)
  pub fails : Bool
  pub lacks : Bool

-- what the code gathered
abbrev pub kept_of : Gathered → Kept
kept_of g = record { found = map item_found g.found.items; fails = g.failing; lacks = g.empty }

-- of no branch
abbrev pub nothing_kept : Kept
nothing_kept = record { found = []; fails = false; lacks = false }

-- one branch more, with its weight
abbrev pub kept_with : Kept → ℕ → Ending → Kept
kept_with k n negative = k
kept_with k n failing = record k { fails = true }
kept_with k n no_replica = record k { lacks = true }
kept_with k n too_deep = k
kept_with k n too_wide = k
kept_with k n (bound f) = record k { found = k.found ++ (n, f) ∷ [] }

-- what a union comes to that kept so much of all its branches
abbrev pub kept_ending : Kept → Ending
kept_ending k = kept k.found k.fails k.lacks
