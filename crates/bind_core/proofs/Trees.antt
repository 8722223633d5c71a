-- Trees as values, and lists of them.
use Rattle.std.proofs.Common.{◌≡◌, ℕ, ◌+◌, ◌<◌, ◌≤◌, List, [], ◌∷◌, ◌⊎◌, inl, inr, true, false, map}
use Rattle.std.proofs.Common.{refl, ap, ◌∙◌, arith}
use Rattle.std.specs.Prelude.{◌==◌}
use Rattle.std.proofs.lemmas.Bool.Decides.{nat_tests}
use Rattle.name_tree.specs.Path.{Labels}
use Rattle.name_tree.specs.declared.tree.Tree.{Tree}
use Rattle.name_tree.specs.Tree.{value_of}
use Rattle.name_tree.specs.Value.{TreeValue, more, tree_values, Branches, no_branch, branch}
use Rattle.name_tree.specs.Value.{append_rest, append_rest_all, append_rest_branches}
use Rattle.bind_core.specs.Delegation.{Told, or_else, walk, walk_all, walk_each, first_of}
use Rattle.bind_core.specs.Stack.{tree_work, all_work, list_work, each_work, weighted}

pub walk_all-tree_values : (look : Labels → Told) (ts : List TreeValue)
    → walk_all look (tree_values ts) ≡ first_of look ts
walk_all-tree_values look [] = refl
walk_all-tree_values look (t ∷ ts) = ap (or_else (walk look t)) (walk_all-tree_values look ts)

pub all_work-tree_values : (work : Labels → ℕ) (ts : List TreeValue)
    → all_work work (tree_values ts) ≡ list_work work ts
all_work-tree_values work [] = refl
all_work-tree_values work (t ∷ ts) =
    ap (λ (k : ℕ). 1 + (tree_work work t + k)) (all_work-tree_values work ts)

-- the weight of a branch is 0, or it is not
pub zero_or : (n : ℕ) → ((n == 0) ≡ true) ⊎ ((n == 0) ≡ false)
zero_or n = elim (n == 0) as (λ b. (b ≡ true) ⊎ (b ≡ false)) [ true ↦ inl refl | false ↦ inr refl ]

-- branches of weight 0 at the front change nothing
pub walk_each-weighted : (look : Labels → Told) (bs : Branches)
    → walk_each look (weighted bs) ≡ walk_each look bs
walk_each-weighted look no_branch = refl
walk_each-weighted look (branch n t bs) =
    elim (zero_or n) [
      | inl zero ↦ rw zero (walk_each-weighted look bs)
      | inr some ↦ rw some
          (rw some refl)
    ]

pub each_work-weighted : (work : Labels → ℕ) (bs : Branches)
    → each_work work (weighted bs) ≤ each_work work bs
each_work-weighted work no_branch = omega arith
each_work-weighted work (branch n t bs) =
    elim (zero_or n) [
      | inl zero ↦ rw zero (omega (arith, each_work-weighted work bs))
      | inr some ↦
          rw some (omega arith)
    ]

pub walk_each-some : (look : Labels → Told) (n : ℕ) (t : TreeValue) (bs : Branches) → 0 < n
    → walk_each look (branch n t bs) ≡ record { weight = n; told = walk look t } ∷ walk_each look bs
walk_each-some look n t bs some = let test : (n == 0) ≡ false = grind (arith, nat_tests) in
    rw test refl

-- labels behind the leaves of a list of trees
pub append_rest-tree_values : (ts : List Tree) (rest : Labels)
    → append_rest_all (tree_values (map value_of ts)) rest
    ≡ tree_values (map (λ t. append_rest (value_of t) rest) ts)
append_rest-tree_values [] rest = refl
append_rest-tree_values (t ∷ ts) rest =
    ap (more (append_rest (value_of t) rest)) (append_rest-tree_values ts rest)

-- labels behind the leaves change no weight
weighted-rest : (bs : Branches) (rest : Labels) → weighted (append_rest_branches bs rest)
    ≡ append_rest_branches (weighted bs) rest
weighted-rest no_branch rest = refl
weighted-rest (branch n t bs) rest =
    elim (zero_or n) [ inl zero ↦ rw zero (weighted-rest bs rest) | inr some ↦ rw some refl ]

-- so the next branch whose weight is not 0 is the same
pub no_branch_left : (old : Branches) (rest : Labels) → weighted old ≡ no_branch
    → weighted (append_rest_branches old rest) ≡ no_branch
no_branch_left old rest none = weighted-rest old rest
    ∙ ap (λ (bs : Branches). append_rest_branches bs rest) none

pub next_branch_is : (old new : Branches) (n : ℕ) (t : TreeValue) (rest same : Labels)
    → same ≡ rest → weighted old ≡ branch n t new
    → weighted (append_rest_branches old rest)
    ≡ branch n (append_rest t same) (append_rest_branches new rest)
next_branch_is old new n t rest same is cut =
    rw is (weighted-rest old rest ∙ ap (λ (bs : Branches). append_rest_branches bs rest) cut)
