-- Trees with labels put behind their leaves, in terms of the lists that they hold.
use Rattle.std.proofs.Common.{◌≡◌, ℕ, ◌+◌, ◌<◌, ◌≤◌, List, [], ◌∷◌, ◌++◌, length, take, get_or, map}
use Rattle.std.proofs.Common.{Vec, Global, refl, sym, ap, ◌∙◌}
use Rattle.std.proofs.lemmas.List.{take_all, take_more, map-append, append-nil}
use Rattle.name_tree.specs.declared.tree.Tree.{Tree, Alt, Union}
use Rattle.name_tree.specs.declared.tree.Trees.{Trees}
use Rattle.name_tree.specs.declared.tree.Branch.{Branch}
use Rattle.name_tree.specs.declared.tree.Branches.{Branches as BranchList, out-Branches}
use Rattle.name_tree.specs.declared.tree.Branches.{roll-Branches}
use Rattle.name_tree.specs.Path.{Labels}
use Rattle.name_tree.specs.Value.{TreeValue, leaf, neg, fail, empty, alt, union, TreeValues, none}
use Rattle.name_tree.specs.Value.{more, tree_values, Branches, no_branch, branch, append_rest}
use Rattle.name_tree.specs.Value.{append_rest_all, append_rest_branches}
use Rattle.name_tree.specs.Tree.{value_of, branches_of, listed}
use Rattle.name_tree.proofs.Bridge.{value_of-Alt, branches_of-roll, branches_of-out}

append_rest-tree_values : (ts : List Tree) (rest : Labels)
    → append_rest_all (tree_values (map value_of ts)) rest
    ≡ tree_values (map (λ t. append_rest (value_of t) rest) ts)
append_rest-tree_values [] rest = refl
append_rest-tree_values (t ∷ ts) rest =
    ap (more (append_rest (value_of t) rest)) (append_rest-tree_values ts rest)

-- where each alternative has the rest behind its leaves, so has the choice
pub alt_with_rest : (tree : Tree) (new old : Trees) (rest : Labels) → tree ≡ Alt old
    → map value_of new.items.items ≡ map (λ t. append_rest (value_of t) rest) old.items.items
    → value_of (Alt new) ≡ append_rest (value_of tree) rest
alt_with_rest tree new old rest is each =
    value_of-Alt new ∙ (ap (λ (ns : List TreeValue). alt (tree_values ns)) each
    ∙ sym (ap (λ (t : Tree). append_rest (value_of t) rest) is
    ∙ (ap (λ (n : TreeValue). append_rest n rest) (value_of-Alt old)
    ∙ ap alt (append_rest-tree_values old.items.items rest))))

-- where each branch has, so has the union
pub union_with_rest : (tree : Tree) (new old : BranchList) (rest : Labels) → tree ≡ Union old
    → branches_of new ≡ append_rest_branches (branches_of old) rest
    → value_of (Union new) ≡ append_rest (value_of tree) rest
union_with_rest tree new old rest is each = ap union each
    ∙ sym (ap (λ (t : Tree). append_rest (value_of t) rest) is)

-- one tree more has the rest behind its leaves
pub rest_more : (old : List Tree) (k : ℕ) (t : Tree) (new : Tree) (made grown : List Tree)
    (rest : Labels) → k < length old → t ≡ get_or old k t
    → value_of new ≡ append_rest (value_of t) rest → grown ≡ made ++ new ∷ []
    → map value_of made ≡ map (λ t. append_rest (value_of t) rest) (take k old)
    → map value_of grown ≡ map (λ t. append_rest (value_of t) rest) (take (k + 1) old)
rest_more old k t new made grown rest less at is pushed stands =
    rw (pushed, take_more old k t less, ← at, map-append, map-append, stands)
    (ap (λ (n : TreeValue). map (λ t. append_rest (value_of t) rest) (take k old) ++ n ∷ []) is)

-- branches, and one behind them
abbrev and_branch : Branches → ℕ → TreeValue → Branches
and_branch no_branch n t = branch n t no_branch
and_branch (branch m u bs) n t = branch m u (and_branch bs n t)

listed-snoc : (bs : List Branch) (b : Branch) → listed (bs ++ b ∷ [])
    ≡ and_branch (listed bs) b.weight (value_of b.tree)
listed-snoc [] b = refl
listed-snoc (x ∷ bs) b = ap (branch x.weight (value_of x.tree)) (listed-snoc bs b)

rest-and_branch : (bs : Branches) (n : ℕ) (t : TreeValue) (rest : Labels)
    → append_rest_branches (and_branch bs n t) rest
    ≡ and_branch (append_rest_branches bs rest) n (append_rest t rest)
rest-and_branch no_branch n t rest = refl
rest-and_branch (branch m u bs) n t rest =
    ap (branch m (append_rest u rest)) (rest-and_branch bs n t rest)

-- one branch more has the rest behind its leaves
pub branch_more : (old : List Branch) (k : ℕ) (b new : Branch) (made grown : List Branch)
    (rest : Labels) → k < length old → b ≡ get_or old k b
    → new.weight ≡ b.weight → value_of new.tree ≡ append_rest (value_of b.tree) rest
    → grown ≡ made ++ new ∷ [] → listed made ≡ append_rest_branches (listed (take k old)) rest
    → listed grown ≡ append_rest_branches (listed (take (k + 1) old)) rest
branch_more old k b new made grown rest less at weight is pushed stands =
    rw (
      pushed,
      take_more old k b less,
      ← at,
      listed-snoc,
      listed-snoc,
      rest-and_branch,
      stands,
      weight,
      is,
    ) refl

-- where each branch of its list has the rest behind its leaves, so have the branches
pub branches_with_rest : (old : BranchList) (new : Vec Branch Global) (items : List Branch) (k : ℕ)
    (rest : Labels) → items ≡ (out-Branches old).items.items → length items ≤ k
    → listed new.items ≡ append_rest_branches (listed (take k items)) rest
    → branches_of (roll-Branches (record { items = new }))
    ≡ append_rest_branches (branches_of old) rest
branches_with_rest old new items k rest is past stands =
    let all : take k items ≡ items = take_all k items past in
    branches_of-roll new ∙ (stands
    ∙ (ap (λ (bs : List Branch). append_rest_branches (listed bs) rest) (all ∙ is)
    ∙ ap (λ (bs : Branches). append_rest_branches bs rest) (sym (branches_of-out old))))

-- a tree with no label behind its leaves is the same
mutual
  pub append_rest_none : (t : TreeValue) → append_rest t [] ≡ t
  append_rest_none (leaf path) = ap leaf (append-nil path)
  append_rest_none neg = refl
  append_rest_none fail = refl
  append_rest_none empty = refl
  append_rest_none (alt ts) = ap alt (all_none ts)
  append_rest_none (union bs) = ap union (branches_none bs)

  all_none : (ts : TreeValues) → append_rest_all ts [] ≡ ts
  all_none none = refl
  all_none (more t ts) = rw (append_rest_none t, all_none ts) refl

  branches_none : (bs : Branches) → append_rest_branches bs [] ≡ bs
  branches_none no_branch = refl
  branches_none (branch n t bs) = rw (append_rest_none t, branches_none bs) refl
