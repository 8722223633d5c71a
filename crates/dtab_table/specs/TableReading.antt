-- A table read byte by byte.
use Rattle.std.specs.Prelude.{ℕ, ◌==◌, if◌then◌else◌, List, [], ◌∷◌, ◌++◌, length, Option, Some}
use Rattle.std.specs.Prelude.{None, option_map}
use Rattle.name_tree.specs.Value.{TreeValue}
use Rattle.name_tree.specs.Grammar.{is_blank}
use Rattle.name_tree.specs.TreeReading.{State as TreeState, before as before_tree}
use Rattle.name_tree.specs.TreeReading.{start as start_branch, next_state as next_tree}
use Rattle.name_tree.specs.TreeReading.{ended_state as ended_tree}
use Rattle.dtab_table.specs.Pattern.{Pattern}
use Rattle.dtab_table.specs.Rules.{Rule}
use Rattle.dtab_table.specs.PrefixReading.{Walk, walk_start, next_walk, end_walk, is_prefix_byte}

-- how far an entry is read
pub data Mode : Type 0 where
  -- in the blanks before it
  start : Mode
  -- in its prefix
  walk : Walk → Mode
  -- behind its prefix and blanks
  behind : List Pattern → Mode
  -- behind the `=` of its `=>`
  arrow : List Pattern → Mode
  -- in its tree
  tree : List Pattern → TreeState → Mode

-- behind these rules, and in an entry
abbrev pub State : Type 0
State = List Rule × Mode

abbrev pub behind_prefix : List Rule → List Pattern → ℕ → Option State
behind_prefix rs ps b =
    if is_blank b then Some (rs, behind ps) else (if b == 61 then Some (rs, arrow ps) else None)

abbrev pub behind_walk : List Rule → ℕ → Option (List Pattern) → Option State
behind_walk rs b None = None
behind_walk rs b (Some ps) = behind_prefix rs ps b

-- behind one rule more
abbrev pub with_rule : List Rule → List Pattern → TreeValue → List Rule
with_rule rs ps v = rs ++ record { prefix = ps; tree = v } ∷ []

-- behind a tree that may end, and its entry
abbrev pub tree_behind : List Rule → List Pattern → Option TreeValue → Option State
tree_behind rs ps o = option_map (λ v. (with_rule rs ps v, start)) o

-- what is read behind the next byte, if some table goes on with it
abbrev pub next : List Rule → Mode → ℕ → Option State
next rs start b =
    if is_blank b then Some (rs, start) else
    (if b == 59 then Some (rs, start) else
    (if b == 47 then Some (rs, walk walk_start) else None))
next rs (walk at) b =
    if is_prefix_byte b then option_map (λ to. (rs, walk to)) (next_walk at b)
    else behind_walk rs b (end_walk at)
next rs (behind ps) b = behind_prefix rs ps b
next rs (arrow ps) b = if b == 62 then Some (rs, tree ps (before_tree [], start_branch)) else None
next rs (tree ps q) b =
    if b == 59 then option_map (λ v. (with_rule rs ps v, start)) (ended_tree q)
    else option_map (λ to. (rs, tree ps to)) (next_tree q b)

abbrev pub next_state : State → ℕ → Option State
next_state q b = next q.0 q.1 b

abbrev pub ended : List Rule → Mode → Option (List Rule)
ended rs start = Some rs
ended rs (tree ps q) = option_map (λ v. with_rule rs ps v) (ended_tree q)
ended rs _ = None

-- the rules of a table that may end here
abbrev pub ended_state : State → Option (List Rule)
ended_state q = ended q.0 q.1

-- before a table
abbrev pub table_start : State
table_start = ([], start)

-- the parentheses that are open
abbrev pub depth_in : Mode → ℕ
depth_in (tree ps q) = length q.0.outer
depth_in _ = 0

abbrev pub table_depth : State → ℕ
table_depth q = depth_in q.1
