-- Delegation: what a path comes to in a table, and which lookups that takes. A recursion over the
-- table as a list.
use Rattle.std.specs.Prelude.{ℕ, zero, suc, ◌+◌, ◌-◌, nat_lt, min, ◌==◌, Bool, true, false, ◌||◌}
use Rattle.std.specs.Prelude.{if◌then◌else◌, List, [], ◌∷◌, ◌++◌, map, length, Option, Some, None}
use Rattle.name_tree.specs.Path.{Labels, canon_path}
use Rattle.name_tree.specs.Value.{TreeValue, TreeValues, Branches, leaf, neg, fail, empty, alt}
use Rattle.name_tree.specs.Value.{union, none, more, no_branch, branch}
use Rattle.dtab_table.specs.Dtab.{rewrites}
use Rattle.dtab_table.specs.Rules.{Rule}
use Rattle.addr_book.specs.declared.leaf.Leaf.{Leaf}
use Rattle.addr_book.specs.Found.{Found, one, many, members}

-- what a tree, a lookup or a delegation comes to
pub data Ending : Type 0 where
  negative : Ending
  failing : Ending
  no_replica : Ending
  too_deep : Ending
  too_wide : Ending
  bound : Found → Ending

-- what is found, where it is bound, is so
abbrev pub IfBound : (Found → Type 0) → Ending → Type 0
IfBound P (bound found) = P found
IfBound P _ = Unit {0}

-- a lookup: how many came before it in its chain, the path that was looked up, and what it came to
pub record Visit : Type 0 where
  pub depth : ℕ
  pub path : Labels
  pub ending : Ending

-- an ending, and the lookups that were made for it, in the order in which they began
abbrev pub Told : Type 0
Told = Ending × List Visit

-- the first that is not negative. The second is looked for only where the first is negative
abbrev pub or_else : Told → Told → Told
or_else (negative, vs) second = (second.0, vs ++ second.1)
or_else (failing, vs) second = (failing, vs)
or_else (no_replica, vs) second = (no_replica, vs)
or_else (too_deep, vs) second = (too_deep, vs)
or_else (too_wide, vs) second = (too_wide, vs)
or_else (bound found, vs) second = (bound found, vs)

-- a branch of a union that is evaluated: its weight in millionths, and what its tree comes to
pub record Evaluated : Type 0 where
  pub weight : ℕ
  pub told : Told

abbrev pub is_too_deep : Ending → Bool
is_too_deep too_deep = true
is_too_deep _ = false

abbrev pub is_failing : Ending → Bool
is_failing failing = true
is_failing _ = false

abbrev pub is_empty : Ending → Bool
is_empty no_replica = true
is_empty _ = false

-- some branch ends so
abbrev pub some_end : (Ending → Bool) → List Evaluated → Bool
some_end ends [] = false
some_end ends (b ∷ bs) = ends b.told.0 || some_end ends bs

-- what a branch finds, with its weight, where it is bound
abbrev pub found_at : ℕ → Ending → List (ℕ × Found)
found_at n (bound found) = (n, found) ∷ []
found_at n _ = []

-- what the bound branches find, with their weights, in order
abbrev pub found_in : List Evaluated → List (ℕ × Found)
found_in [] = []
found_in (b ∷ bs) = found_at b.weight b.told.0 ++ found_in bs

-- a union without a branch that is too deep is bound to what its bound branches find, if there are
-- any; else it is failing if a branch is, else without replica if a branch is, else negative
abbrev pub kept : List (ℕ × Found) → Bool → Bool → Ending
kept [] fails lacks = if fails then failing else if lacks then no_replica else negative
kept (m ∷ ms) fails lacks = bound (many (members (m ∷ ms)))

-- the ending of a union with these branches: too deep if one of them is
abbrev pub joint : List Evaluated → Ending
joint bs =
    if some_end is_too_deep bs then too_deep
    else kept (found_in bs) (some_end is_failing bs) (some_end is_empty bs)

-- the lookups of the branches up to the first that is too deep, and with it
abbrev pub joint_visits : List Evaluated → List Visit
joint_visits [] = []
joint_visits (b ∷ bs) = b.told.1 ++ (if is_too_deep b.told.0 then [] else joint_visits bs)

-- what a union comes to, of which these branches are evaluated
abbrev pub together : List Evaluated → Told
together bs = (joint bs, joint_visits bs)

module _ (look : Labels → Told) where
  abbrev mutual
    -- a tree, whose leaves are looked up so
    pub walk : TreeValue → Told
    walk (leaf path) = look path
    walk neg = (negative, [])
    walk fail = (failing, [])
    walk empty = (no_replica, [])
    walk (alt ts) = walk_all ts
    walk (union bs) = together (walk_each bs)

    pub walk_all : TreeValues → Told
    walk_all none = (negative, [])
    walk_all (more t ts) = or_else (walk t) (walk_all ts)

    -- the branches of a union, but for those of weight 0, which are not evaluated
    pub walk_each : Branches → List Evaluated
    walk_each no_branch = []
    walk_each (branch n t bs) =
        if n == 0 then walk_each bs else record { weight = n; told = walk t } ∷ walk_each bs

  -- the first of some trees that is not negative
  abbrev pub first_of : List TreeValue → Told
  first_of [] = (negative, [])
  first_of (t ∷ ts) = or_else (walk t) (first_of ts)

-- what paths name by themselves
abbrev pub Names : Type 0
Names = Labels → Option Leaf

abbrev pub named_ending : Option Leaf → Ending
named_ending None = negative
named_ending (Some found) = bound (one found)

-- a lookup before those that were made for it. It comes to what they tell: so where something was
-- too deep, each lookup that had not ended came to that
abbrev pub visited : ℕ → Labels → Told → Told
visited depth path told = (told.0, record { depth = depth; path = path; ending = told.0 } ∷ told.1)

-- the most lookups in a chain, and in a delegation; the most bytes of a path's text
abbrev pub most_deep : ℕ
most_deep = 100

abbrev pub most_wide : ℕ
most_wide = 10000

abbrev pub most_path_bytes : ℕ
most_path_bytes = 2048

-- a path that is reached with so many lookups left in its chain: the trees that the table rewrites
-- it to are tried in order, and then what it names by itself. It is too deep where no lookup is
-- left, and where its text is too long
unfoldable pub lookup : List Rule → Names → ℕ → Labels → Told
lookup rules names zero path = (too_deep, [])
lookup rules names (suc left) path =
    if nat_lt most_path_bytes (length (canon_path path)) then (too_deep, [])
    else visited (most_deep - suc left) path
    (or_else (first_of (lookup rules names left) (rewrites rules path))
    (named_ending (names path), []))

-- a whole delegation, without the limit on its lookups
abbrev pub told_in : List Rule → Names → Labels → Told
told_in rules names path = lookup rules names most_deep path

-- too wide, whatever else, where there are too many lookups
abbrev pub within_width : Told → Ending
within_width told = if nat_lt most_wide (length told.1) then too_wide else told.0

-- what a path comes to in a table, within the limits
abbrev pub outcome_of : List Rule → Names → Labels → Ending
outcome_of rules names path = within_width (told_in rules names path)

-- how many lookups that takes, as far as they are counted
abbrev pub cost_of : List Rule → Names → Labels → ℕ
cost_of rules names path = min (length (told_in rules names path).1) (most_wide + 1)

-- the paths that are looked up for it, in the order in which their lookups begin
abbrev pub asked_of : List Rule → Names → Labels → List Labels
asked_of rules names path = map (λ v. v.path) (told_in rules names path).1

-- the lookups, where there are at most so many
abbrev pub visits_within : ℕ → Told → List Visit
visits_within most told = if nat_lt most (length told.1) then [] else told.1

-- the lookups, in the order in which they begin. There are none where the delegation is too wide
abbrev pub trace_of : List Rule → Names → Labels → List Visit
trace_of rules names path = visits_within most_wide (told_in rules names path)

-- the most lookups of which the paths are kept
abbrev pub most_asked : ℕ
most_asked = 256

-- the paths that are looked up, where there are few enough of them
abbrev pub kept_asked : List Rule → Names → Labels → List Labels
kept_asked rules names path =
    map (λ v. v.path) (visits_within most_asked (told_in rules names path))
