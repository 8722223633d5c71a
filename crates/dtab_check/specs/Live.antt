-- What a tree is sure by: the leaves and the marks of it that can be asked.
use Rattle.std.specs.Prelude.{◌≡◌, Bool, false, ◌||◌, ◌==◌, if◌then◌else◌}
use Rattle.std.specs.Prelude.{List, [], ◌∷◌, ◌++◌, is_some, map}
use Rattle.std.specs.Borrow.{Bor}
use Rattle.name_tree.specs.declared.path.Path.{Path}
use Rattle.name_tree.specs.declared.tree.Branch.{Branch}
use Rattle.name_tree.specs.Tree.{value_of}
use Rattle.name_tree.specs.Path.{Labels}
use Rattle.name_tree.specs.Value.{TreeValue, leaf, neg, fail, empty, alt, union}
use Rattle.name_tree.specs.Value.{TreeValues, none, more, Branches, no_branch, branch}
use Rattle.dtab_index.specs.Index.{matches}
use Rattle.dtab_table.specs.Rules.{Rule}
use Rattle.addr_book.specs.Namer.{named_addr}
use Rattle.dtab_check.specs.declared.live.Live.{Live}
use Rattle.dtab_check.specs.Sure.{sure_tree}

abbrev mutual
  -- the leaves of a tree in order, but for those below a weight of 0
  pub leaves_in : TreeValue → List Labels
  leaves_in (leaf path) = path ∷ []
  leaves_in neg = []
  leaves_in fail = []
  leaves_in empty = []
  leaves_in (alt ts) = leaves_in_all ts
  leaves_in (union bs) = leaves_in_each bs

  pub leaves_in_all : TreeValues → List Labels
  leaves_in_all none = []
  leaves_in_all (more t ts) = leaves_in t ++ leaves_in_all ts

  pub leaves_in_each : Branches → List Labels
  leaves_in_each no_branch = []
  leaves_in_each (branch n t bs) = (if n == 0 then [] else leaves_in t) ++ leaves_in_each bs

-- whether a path names an address by itself
abbrev pub names_addr : Labels → Bool
names_addr path = is_some (named_addr path)

-- whether a tree is sure by itself, whatever the table has
abbrev pub stops_in : TreeValue → Bool
stops_in tree = sure_tree names_addr tree

-- the same of a branch, which counts where it has a weight
abbrev pub branch_leaves : Branch → List Labels
branch_leaves b = if b.weight == 0 then [] else leaves_in (value_of b.tree)

abbrev pub branch_stops : Branch → Bool
branch_stops b = if b.weight == 0 then false else stops_in (value_of b.tree)

-- whether some of these leaves passes a test
abbrev pub some_leaf : (Labels → Bool) → List Labels → Bool
some_leaf test [] = false
some_leaf test (l ∷ ls) = test l || some_leaf test ls

-- the leaves of the code
abbrev pub paths_of : List (Bor Path) → List Labels
paths_of leaves = map (λ leaf. leaf.now) leaves

-- this adds to what was found a tree's leaves, and whether it stops
pub record Adds (old new : Live) (tree_leaves : List Labels) (tree_stops : Bool) : Type 0 where
  pub leaves : paths_of new.leaves.items ≡ paths_of old.leaves.items ++ tree_leaves
  pub stops : new.stops ≡ (old.stops || tree_stops)

-- this is what a tree is sure by
pub record IsLive (tree : TreeValue) (live : Live) : Type 0 where
  pub leaves : paths_of live.leaves.items ≡ leaves_in tree
  pub stops : live.stops ≡ stops_in tree

-- which entries some of these leaves matches, entry by entry
abbrev pub reached_by : List Labels → List Rule → List Bool
reached_by leaves rules = map (λ r. some_leaf (matches r.prefix) leaves) rules
