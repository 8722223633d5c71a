-- A tree without what makes no lookup: what there is to try of it.
use Rattle.std.specs.Prelude.{ℕ, Bool, true, false, ◌==◌, ◌||◌, if◌then◌else◌, List, [], ◌∷◌}
use Rattle.name_tree.specs.Value.{TreeValue, TreeValues, Branches, leaf, neg, fail, empty, alt}
use Rattle.name_tree.specs.Value.{union, none, more, no_branch, branch}

-- an alternative before others: a negative one is left out, and so is all that stands behind `!`
-- and `$`
abbrev pub tried_before : TreeValue → TreeValues → TreeValues
tried_before (leaf path) ts = more (leaf path) ts
tried_before neg ts = ts
tried_before fail ts = more fail none
tried_before empty ts = more empty none
tried_before (alt us) ts = more (alt us) ts
tried_before (union bs) ts = more (union bs) ts

-- no alternative behind it is tried, whatever paths come to
abbrev pub ends_choice : TreeValue → Bool
ends_choice (leaf path) = false
ends_choice neg = false
ends_choice fail = true
ends_choice empty = true
ends_choice (alt ts) = false
ends_choice (union bs) = false

-- none is negative, one is itself, and several are a choice
abbrev pub choice : TreeValues → TreeValue
choice none = neg
choice (more t none) = t
choice (more t (more u us)) = alt (more t (more u us))

-- a union: its branches that make lookups, whether another one is `!`, and whether one is `$`
pub record Parts : Type 0 where
  pub branches : Branches
  pub fails : Bool
  pub lacks : Bool

abbrev pub no_parts : Parts
no_parts = record { branches = no_branch; fails = false; lacks = false }

abbrev pub part_before : ℕ → TreeValue → Parts → Parts
part_before n (leaf path) p = record p { branches = branch n (leaf path) p.branches }
part_before n neg p = p
part_before n fail p = record p { fails = true }
part_before n empty p = record p { lacks = true }
part_before n (alt ts) p = record p { branches = branch n (alt ts) p.branches }
part_before n (union bs) p = record p { branches = branch n (union bs) p.branches }

-- branches, and others behind them
abbrev pub branches_then : Branches → Branches → Branches
branches_then no_branch more_of = more_of
branches_then (branch n t bs) more_of = branch n t (branches_then bs more_of)

abbrev pub mark_if : Bool → TreeValue → Branches → Branches
mark_if true t bs = branch 1 t bs
mark_if false t bs = bs

abbrev pub marks : Bool → Bool → Branches
marks fails lacks = mark_if fails fail (mark_if lacks empty no_branch)

-- each mark stands once, behind the branches that make lookups; without such a branch the union is
-- a mark
abbrev pub union_left : Bool → Bool → Branches → TreeValue
union_left true lacks no_branch = fail
union_left false true no_branch = empty
union_left false false no_branch = neg
union_left fails lacks (branch n t bs) = union (branches_then (branch n t bs) (marks fails lacks))

abbrev pub union_of_parts : Parts → TreeValue
union_of_parts p = union_left p.fails p.lacks p.branches

abbrev mutual
  pub lean : TreeValue → TreeValue
  lean (leaf path) = leaf path
  lean neg = neg
  lean fail = fail
  lean empty = empty
  lean (alt ts) = choice (lean_all ts)
  lean (union bs) = union_of_parts (lean_each bs)

  pub lean_all : TreeValues → TreeValues
  lean_all none = none
  lean_all (more t ts) = tried_before (lean t) (lean_all ts)

  pub lean_each : Branches → Parts
  lean_each no_branch = no_parts
  lean_each (branch n t bs) = if n == 0 then lean_each bs else part_before n (lean t) (lean_each bs)

-- the parts of a union that were found before others
abbrev pub joined_parts : Parts → Parts → Parts
joined_parts p q =
    record {
      branches = branches_then p.branches q.branches;
      fails = p.fails || q.fails;
      lacks = p.lacks || q.lacks;
    }

-- alternatives that were found before others
abbrev pub values_then : List TreeValue → TreeValues → TreeValues
values_then [] ts = ts
values_then (u ∷ us) ts = more u (values_then us ts)
