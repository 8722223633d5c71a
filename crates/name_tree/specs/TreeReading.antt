-- A tree read byte by byte, with the parentheses that are open on a stack.
use Rattle.std.specs.Prelude.{ℕ, ◌+◌, ◌-◌, ◌*◌, ◌/◌, ◌==◌, nat_lt, if◌then◌else◌, List, [], ◌∷◌}
use Rattle.std.specs.Prelude.{◌++◌, Option, Some, None, option_map}
use Rattle.name_tree.specs.Path.{Labels}
use Rattle.name_tree.specs.Value.{TreeValue, leaf, neg, fail, empty, BranchValue, one_whole}
use Rattle.name_tree.specs.Value.{one_or_alt, union_of}
use Rattle.name_tree.specs.Grammar.{is_blank, is_digit}
use Rattle.name_tree.specs.Recogniser.{value_from}
use Rattle.name_tree.specs.LabelReading.{is_path_byte}
use Rattle.name_tree.specs.PathReading.{Walk, walk_start, next_walk, end_walk}

-- an open parenthesis: the alternatives before it, the branches before it in its union, and the
-- weight before it
pub record Frame : Type 0 where
  pub alts : List TreeValue
  pub parts : List BranchValue
  pub weight : Option ℕ

-- where in a tree the reading is: in which open parentheses, the innermost first, behind which
-- alternatives, and behind which branches of the union
pub record Place : Type 0 where
  pub outer : List Frame
  pub alts : List TreeValue
  pub parts : List BranchValue

-- and where in a branch
pub data Mode : Type 0 where
  -- before it
  start : Mode
  -- behind a weight's digits, so many, which stand for the number
  whole : ℕ → ℕ → Mode
  -- behind a weight's point
  point : ℕ → Mode
  -- behind a decimal, where the next one is worth so much
  decimals : ℕ → ℕ → Mode
  -- behind a weight and blanks
  weight : ℕ → Mode
  -- behind a weight and its `*`
  star : ℕ → Mode
  -- in a path behind a weight or none
  walk : Option ℕ → Walk → Mode
  -- behind it
  behind : Mode

abbrev pub State : Type 0
State = Place × Mode

-- behind one branch more
abbrev pub with_part : Place → Option ℕ → TreeValue → Place
with_part p w v = record p { parts = p.parts ++ (w, v) ∷ [] }

-- behind one alternative more
abbrev pub with_alt : Place → Place
with_alt p = record { outer = p.outer; alts = p.alts ++ union_of p.parts ∷ []; parts = [] }

-- inside one parenthesis more
abbrev pub opened : Place → Option ℕ → Place
opened p w =
    record {
      outer = record { alts = p.alts; parts = p.parts; weight = w } ∷ p.outer;
      alts = [];
      parts = [];
    }

-- the tree that was read inside the parentheses
abbrev pub inner : Place → TreeValue
inner p = one_or_alt (p.alts ++ union_of p.parts ∷ [])

-- behind the innermost parenthesis, which held the tree
abbrev pub closed : List Frame → TreeValue → Option State
closed [] v = None
closed (f ∷ fs) v =
    Some (record { outer = fs; alts = f.alts; parts = f.parts ++ (f.weight, v) ∷ [] }, behind)

abbrev pub begin_simple : Place → Option ℕ → ℕ → Option State
begin_simple p w b =
    if b == 47 then Some (p, walk w walk_start) else
    (if b == 40 then Some (opened p w, start) else
    (if b == 126 then Some (with_part p w neg, behind) else
    (if b == 33 then Some (with_part p w fail, behind) else
    (if b == 36 then Some (with_part p w empty, behind) else None))))

abbrev pub behind_weight : Place → ℕ → ℕ → Option State
behind_weight p n b =
    if is_blank b then Some (p, weight n) else
    (if b == 42 then Some (p, star n) else None)

abbrev pub behind_branch : Place → ℕ → Option State
behind_branch p b =
    if is_blank b then Some (p, behind) else
    (if b == 38 then Some (p, start) else
    (if b == 124 then Some (with_alt p, start) else
    (if b == 41 then closed p.outer (inner p) else None)))

-- behind a path that may end
abbrev pub path_behind : Place → Option ℕ → Option Labels → Option State
path_behind p w o = option_map (λ ls. (with_part p w (leaf ls), behind)) o

abbrev pub behind_path : Place → Option ℕ → ℕ → Option Labels → Option State
behind_path p w b None = None
behind_path p w b (Some ls) = behind_branch (with_part p w (leaf ls)) b

-- what is read behind the next byte, if some text goes on with it
abbrev pub next : Place → Mode → ℕ → Option State
next p start b =
    if is_blank b then Some (p, start) else
    (if is_digit b then Some (p, whole (b - 48) 1) else
    (if b == 46 then Some (p, point 0) else begin_simple p None b))
next p (whole n k) b =
    if is_digit b then (if nat_lt k 6 then Some (p, whole (10 * n + (b - 48)) (k + 1)) else None)
    else
    (if b == 46 then Some (p, point (n * one_whole)) else behind_weight p (n * one_whole) b)
next p (point n) b = if is_digit b then Some (p, decimals (n + (b - 48) * 100000) 10000) else None
next p (decimals n unit) b =
    if is_digit b then Some (p, decimals (n + (b - 48) * unit) (unit / 10)) else behind_weight p n b
next p (weight n) b = behind_weight p n b
next p (star n) b = if is_blank b then Some (p, star n) else begin_simple p (Some n) b
next p (walk w at) b =
    if is_path_byte b then option_map (λ to. (p, walk w to)) (next_walk at b)
    else behind_path p w b (end_walk at)
next p behind b = behind_branch p b

-- the tree that ends here
abbrev pub end_tree : Place → Option TreeValue
end_tree p = elim p.outer [ [] ↦ Some (inner p) | _ ∷ _ ↦ None ]

abbrev pub ended_path : Place → Option ℕ → Option Labels → Option TreeValue
ended_path p w None = None
ended_path p w (Some ls) = end_tree (with_part p w (leaf ls))

abbrev pub ended : Place → Mode → Option TreeValue
ended p (walk w at) = ended_path p w (end_walk at)
ended p behind = end_tree p
ended p _ = None

abbrev pub next_state : State → ℕ → Option State
next_state q b = next q.0 q.1 b

abbrev pub ended_state : State → Option TreeValue
ended_state q = ended q.0 q.1

-- the tree of a text whose last bytes are these
abbrev pub tree_from : Place → Mode → List ℕ → Option TreeValue
tree_from p m s = value_from next_state ended_state (p, m) s

-- before a tree in these parentheses
abbrev pub before : List Frame → Place
before fs = record { outer = fs; alts = []; parts = [] }

-- the tree that a text stands for, by reading it
abbrev pub tree_read : List ℕ → Option TreeValue
tree_read text = tree_from (before []) start text
