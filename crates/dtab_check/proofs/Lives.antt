-- What trees are sure by, tree by tree and branch by branch.
use Rattle.std.proofs.Common.{◌≡◌, ℕ, zero, suc, ◌+◌, ◌<◌, ◌≤◌, Bool, true, false, List, [], ◌∷◌}
use Rattle.std.proofs.Common.{◌++◌, length, map, take, get_or, refl, sym, ap, ◌∙◌, arith}
use Rattle.std.proofs.Common.{append_assoc}
use Rattle.std.specs.Prelude.{◌||◌, ◌==◌}
use Rattle.std.proofs.Math.Bool.{or-false}
use Rattle.std.proofs.lemmas.Bool.{ne_eqb, eq-eqb}
use Rattle.std.proofs.lemmas.List.{append-nil, take_more, map-append}
use Rattle.name_tree.specs.declared.tree.Tree.{Tree}
use Rattle.name_tree.specs.declared.tree.Branch.{Branch}
use Rattle.name_tree.specs.Path.{Labels}
use Rattle.name_tree.specs.Value.{TreeValue, tree_values, leaf, neg, fail, empty, alt, union}
use Rattle.name_tree.specs.Value.{TreeValues, none, more, Branches, branch, no_branch}
use Rattle.name_tree.specs.Tree.{value_of, listed}
use Rattle.dtab_check.specs.declared.live.Live.{Live}
use Rattle.dtab_check.specs.Sure.{some_alternative, some_branch}
use Rattle.dtab_check.specs.Live.{leaves_in, leaves_in_all, leaves_in_each, names_addr, stops_in}
use Rattle.dtab_check.specs.Live.{paths_of, branch_leaves, branch_stops, Adds}

or_assoc : (a b c : Bool) → ((a || b) || c) ≡ (a || (b || c))
or_assoc true b c = refl
or_assoc false b c = refl

pub adds-nothing : (live : Live) → Adds live live [] false
adds-nothing live = record {
  leaves = sym (append-nil (paths_of live.leaves.items));
  stops =
      sym (or-false live.stops);
}

pub adds-more : (a b c : Live) (xs ys : List Labels) (s t : Bool) → Adds a b xs s → Adds b c ys t
    → Adds a c (xs ++ ys) (s || t)
adds-more a b c xs ys s t first second = record {
  leaves = second.leaves
      ∙ (ap (λ (ls : List Labels). ls ++ ys) first.leaves
      ∙ append_assoc (paths_of a.leaves.items) xs ys);
  stops = second.stops ∙ (ap (λ (x : Bool). x || t) first.stops ∙ or_assoc a.stops s t);
}

-- one alternative more
leaves-last : (ts : List TreeValue) (t : TreeValue)
    → leaves_in_all (tree_values (ts ++ t ∷ [])) ≡ leaves_in_all (tree_values ts) ++ leaves_in t
leaves-last [] t = append-nil (leaves_in t)
leaves-last (u ∷ us) t = ap (λ (ls : List Labels). leaves_in u ++ ls) (leaves-last us t)
    ∙ sym (append_assoc (leaves_in u) (leaves_in_all (tree_values us)) (leaves_in t))

stops-last : (ts : List TreeValue) (t : TreeValue)
    → some_alternative names_addr (tree_values (ts ++ t ∷ []))
    ≡ (some_alternative names_addr (tree_values ts) || stops_in t)
stops-last [] t = or-false (stops_in t)
stops-last (u ∷ us) t = ap (λ (s : Bool). stops_in u || s) (stops-last us t)
    ∙ sym (or_assoc (stops_in u) (some_alternative names_addr (tree_values us)) (stops_in t))

abbrev pub front_leaves : List Tree → ℕ → List Labels
front_leaves trees i = leaves_in_all (tree_values (map value_of (take i trees)))

abbrev pub front_stops : List Tree → ℕ → Bool
front_stops trees i = some_alternative names_addr (tree_values (map value_of (take i trees)))

pub next_alternative : (a b c : Live) (trees : List Tree) (i : ℕ) (t : Tree) → i < length trees
    → t ≡ get_or trees i t → Adds a b (front_leaves trees i) (front_stops trees i)
    → Adds b c (leaves_in (value_of t)) (stops_in (value_of t))
    → Adds a c (front_leaves trees (i + 1)) (front_stops trees (i + 1))
next_alternative a b c trees i t within is front one =
    let values : map value_of (take (i + 1) trees) ≡ map value_of (take i trees) ++ value_of t
    ∷ [] = rw (take_more trees i t within, ← is, map-append) refl in
    rw (
      values,
      leaves-last (map value_of (take i trees)) (value_of t),
      stops-last (map value_of (take i trees)) (value_of t),
    )
    (adds-more a b c (front_leaves trees i) (leaves_in (value_of t)) (front_stops trees i)
    (stops_in (value_of t)) front one)

-- one branch more
branch_leaves-last : (bs : List Branch) (b : Branch)
    → leaves_in_each (listed (bs ++ b ∷ [])) ≡ leaves_in_each (listed bs) ++ branch_leaves b
branch_leaves-last [] b = append-nil (branch_leaves b)
branch_leaves-last (a ∷ bs) b = ap (λ (ls : List Labels). branch_leaves a ++ ls)
    (branch_leaves-last bs b)
    ∙ sym (append_assoc (branch_leaves a) (leaves_in_each (listed bs)) (branch_leaves b))

branch_stops-last : (bs : List Branch) (b : Branch)
    → some_branch names_addr (listed (bs ++ b ∷ []))
    ≡ (some_branch names_addr (listed bs) || branch_stops b)
branch_stops-last [] b = or-false (branch_stops b)
branch_stops-last (a ∷ bs) b = ap (λ (s : Bool). branch_stops a || s) (branch_stops-last bs b)
    ∙ sym (or_assoc (branch_stops a) (some_branch names_addr (listed bs)) (branch_stops b))

abbrev pub front_branch_leaves : List Branch → ℕ → List Labels
front_branch_leaves bs i = leaves_in_each (listed (take i bs))

abbrev pub front_branch_stops : List Branch → ℕ → Bool
front_branch_stops bs i = some_branch names_addr (listed (take i bs))

pub next_branch : (a b c : Live) (bs : List Branch) (i : ℕ) (t : Branch) → i < length bs
    → t ≡ get_or bs i t → Adds a b (front_branch_leaves bs i) (front_branch_stops bs i)
    → Adds b c (branch_leaves t) (branch_stops t)
    → Adds a c (front_branch_leaves bs (i + 1)) (front_branch_stops bs (i + 1))
next_branch a b c bs i t within is front one =
    let values : take (i + 1) bs ≡ take i bs ++ t ∷ [] = rw (take_more bs i t within, ← is) refl in
    rw (values, branch_leaves-last (take i bs) t, branch_stops-last (take i bs) t)
    (adds-more a b c (front_branch_leaves bs i) (branch_leaves t) (front_branch_stops bs i)
    (branch_stops t) front one)

-- a branch adds its tree where it has a weight, and else nothing
pub weighted_branch : (a b : Live) (t : Branch) → 0 < t.weight
    → Adds a b (leaves_in (value_of t.tree)) (stops_in (value_of t.tree))
    → Adds a b (branch_leaves t) (branch_stops t)
weighted_branch a b t some adds = let test : (t.weight == 0) ≡ false =
    ne_eqb t.weight 0 (λ zero_weight. omega (arith, zero_weight)) in rw test adds

pub weightless_branch : (a : Live) (t : Branch) → t.weight ≤ 0
    → Adds a a (branch_leaves t) (branch_stops t)
weightless_branch a t light = let test : (t.weight == 0) ≡ true =
    eq-eqb t.weight 0 (omega arith) in rw test (adds-nothing a)

-- trees have more work than any of theirs
abbrev mutual
  pub work_of : TreeValue → ℕ
  work_of (leaf path) = 1
  work_of neg = 1
  work_of fail = 1
  work_of empty = 1
  work_of (alt ts) = 1 + all_work_of ts
  work_of (union bs) = 1 + branch_works_of bs

  pub all_work_of : TreeValues → ℕ
  all_work_of none = 1
  all_work_of (more t ts) = 1 + (work_of t + all_work_of ts)

  pub branch_works_of : Branches → ℕ
  branch_works_of no_branch = 1
  branch_works_of (branch n t bs) = 1 + (work_of t + branch_works_of bs)

abbrev pub works_of : List TreeValue → ℕ
works_of ts = all_work_of (tree_values ts)

pub less_tree : (trees : List Tree) (i : ℕ) (t : Tree) → i < length trees → t ≡ get_or trees i t
    → work_of (value_of t) < works_of (map value_of trees)
less_tree [] i t within is = absurd (omega arith)
less_tree (u ∷ us) zero t within is = rw is (omega arith)
less_tree (u ∷ us) (suc i) t within is = let less = less_tree us i t (omega arith) is in
    omega (arith, less)

some_work : (bs : Branches) → 1 ≤ branch_works_of bs
some_work no_branch = omega arith
some_work (branch n t bs) = omega arith

pub less_branch : (bs : List Branch) (i : ℕ) (t : Branch) → i < length bs → t ≡ get_or bs i t
    → work_of (value_of t.tree) + 1 < branch_works_of (listed bs)
less_branch [] i t within is = absurd (omega arith)
less_branch (u ∷ us) zero t within is = rw is (omega (arith, some_work (listed us)))
less_branch (u ∷ us) (suc i) t within is = let less = less_branch us i t (omega arith) is in
    omega (arith, less)

-- a choice has more work than its alternatives
pub alternatives_less : (t : TreeValue) (ts : List TreeValue) → t ≡ alt (tree_values ts)
    → works_of ts < work_of t
alternatives_less t ts is = rw is (omega arith)
