-- Trees that are sure: in any table that has a table's entries, and with any book of services,
-- whatever is looked up for them is never negative.
use Rattle.std.specs.Prelude.{ℕ, zero, suc, Bool, true, false, ◌&&◌, ◌||◌, ◌==◌, if◌then◌else◌}
use Rattle.std.specs.Prelude.{List, [], ◌∷◌, length, is_some}
use Rattle.name_tree.specs.Path.{Labels}
use Rattle.name_tree.specs.Value.{TreeValue, leaf, neg, fail, empty, alt, union}
use Rattle.name_tree.specs.Value.{TreeValues, none, more, Branches, no_branch, branch}
use Rattle.dtab_index.specs.Index.{matches}
use Rattle.dtab_table.specs.Rules.{Rule}
use Rattle.addr_book.specs.Namer.{named_addr}

module _ (path_sure : Labels → Bool) where
  abbrev mutual
    -- whether a tree is sure, where this says of each leaf whether it is: a mark other than `~`, an
    -- alternation of which one alternative is sure, a union of which one branch is that has a
    -- weight
    pub sure_tree : TreeValue → Bool
    sure_tree (leaf path) = path_sure path
    sure_tree neg = false
    sure_tree fail = true
    sure_tree empty = true
    sure_tree (alt ts) = some_alternative ts
    sure_tree (union bs) = some_branch bs

    pub some_alternative : TreeValues → Bool
    some_alternative none = false
    some_alternative (more t ts) = sure_tree t || some_alternative ts

    pub some_branch : Branches → Bool
    some_branch no_branch = false
    some_branch (branch n t bs) = (if n == 0 then false else sure_tree t) || some_branch bs

  -- whether some entry matches a path and has a sure tree
  abbrev pub some_match : List Rule → Labels → Bool
  some_match [] path = false
  some_match (r ∷ rs) path = (matches r.prefix path && sure_tree r.tree) || some_match rs path

-- whether a leaf is sure after so many rounds over a table: it names an address by itself, or some
-- entry matches it whose tree was sure one round before. A leaf that names a service is not sure by
-- itself: the service may be in no book
abbrev pub sure_path : List Rule → ℕ → Labels → Bool
sure_path rules zero path = is_some (named_addr path)
sure_path rules (suc rounds) path =
    is_some (named_addr path) || some_match (sure_path rules rounds) rules path

-- whether a tree of a table is sure: as many rounds as the table has entries find all that are
abbrev pub is_sure : List Rule → TreeValue → Bool
is_sure rules tree = sure_tree (sure_path rules (length rules)) tree
