-- Lists whose members say the same, member by member.
use Rattle.std.proofs.Common.{◌≡◌, ℕ, Bool, ◌+◌, ◌<◌, ◌≤◌, List, [], ◌∷◌, ◌++◌, length, take}
use Rattle.std.proofs.Common.{get_or, map, true, false, refl, sym, ap, ◌∙◌, arith}
use Rattle.std.specs.Prelude.{◌↔◌, IsTrue, slice_get, Some}
use Rattle.std.proofs.lemmas.List.{take_all, take_more, map-append, length-map, get_or-map}
use Rattle.std.proofs.lemmas.Option.{get_or_from_slice_get}
use mathlib.Core.Bool.{not}
use Rattle.name_tree.specs.declared.tree.Tree.{Tree, Alt, Union}
use Rattle.name_tree.specs.declared.tree.Trees.{Trees}
use Rattle.name_tree.specs.declared.tree.Branch.{Branch}
use Rattle.name_tree.specs.declared.tree.Branches.{Branches as BranchList, out-Branches}
use Rattle.name_tree.specs.Path.{Label, Labels}
use Rattle.name_tree.specs.Value.{TreeValue, TreeValues, none, more, tree_values, alt, union}
use Rattle.name_tree.specs.Value.{Branches, no_branch, branch}
use Rattle.name_tree.specs.Tree.{value_of, trees_in, branches_of, branch_value, listed}
use Rattle.name_tree.proofs.Bridge.{value_of-Alt, branches_of-out}

module _ {X V : Type 0} (v : X → V) (xs ys : List X) where
  pub of_other_length : (length xs ≡ length ys → ⊥) → IsTrue false ↔ (map v xs ≡ map v ys)
  of_other_length other = (
    λ no. absurd (cc),
    λ same.
        absurd (other (sym (length-map xs v) ∙ (ap length same ∙ length-map ys v))),
  )

  -- so many members say the same
  module _ (k : ℕ) (x y : X) (within : k < length xs) (as_many : length xs ≡ length ys)
      (is : x ≡ get_or xs k x) (are : y ≡ get_or ys k y) where
    pub one_more : v x ≡ v y → map v (take k xs) ≡ map v (take k ys)
        → map v (take (k + 1) xs) ≡ map v (take (k + 1) ys)
    one_more same stands =
        let there : k < length ys = omega arith in
        rw (
          take_more xs k x within,
          take_more ys k y there,
          ← is,
          ← are,
          map-append,
          map-append,
          stands,
        ) (ap (λ (z : V). map v (take k ys) ++ z ∷ []) same)

    pub other_member : (v x ≡ v y → ⊥) → IsTrue false ↔ (map v xs ≡ map v ys)
    other_member other =
        let there : k < length ys = omega arith in (
          λ no. absurd (cc),
          λ same. absurd (other (
              ap v is ∙ (sym (get_or-map v xs k x (v x) within)
              ∙ (ap (λ (vs : List V). get_or vs k (v x)) same
              ∙ (get_or-map v ys k y (v x) there ∙ ap v (sym are))))
              )),
        )

  pub all_same : (k : ℕ) → length xs ≤ k → length xs ≡ length ys
      → map v (take k xs) ≡ map v (take k ys) → IsTrue true ↔ (map v xs ≡ map v ys)
  all_same k past as_many stands =
      let past_too : length ys ≤ k = omega arith in (
        λ _. ap (map v) (sym (take_all k xs past)) ∙ (stands ∙ ap (map v) (take_all k ys past_too)),
        λ _. refl,
      )

-- alternatives are the same where their lists are
list_of : TreeValues → List TreeValue
list_of none = []
list_of (more t ts) = t ∷ list_of ts

list_of_values : (ts : List TreeValue) → list_of (tree_values ts) ≡ ts
unfolding list_of
list_of_values [] = refl
list_of_values (t ∷ ts) = ap (λ (us : List TreeValue). t ∷ us) (list_of_values ts)

pub same_values : (ts us : List TreeValue) → tree_values ts ≡ tree_values us → ts ≡ us
same_values ts us same = sym (list_of_values ts) ∙ (ap list_of same ∙ list_of_values us)

-- and so are branches
pairs_of : Branches → List (ℕ × TreeValue)
pairs_of no_branch = []
pairs_of (branch n t bs) = (n, t) ∷ pairs_of bs

of_pairs : List (ℕ × TreeValue) → Branches
of_pairs [] = no_branch
of_pairs (p ∷ ps) = branch p.0 p.1 (of_pairs ps)

pairs_listed : (bs : List Branch) → pairs_of (listed bs) ≡ map branch_value bs
unfolding pairs_of
pairs_listed [] = refl
pairs_listed (b ∷ bs) = ap (λ (ps : List (ℕ × TreeValue)). branch_value b ∷ ps) (pairs_listed bs)

listed_pairs : (bs : List Branch) → of_pairs (map branch_value bs) ≡ listed bs
unfolding of_pairs
listed_pairs [] = refl
listed_pairs (b ∷ bs) = ap (branch b.weight (branch_value b).1) (listed_pairs bs)

pub same_branches : (bs cs : List Branch) → (map branch_value bs ≡ map branch_value cs)
    ↔ (listed bs ≡ listed cs)
same_branches bs cs = (
  λ same. sym (listed_pairs bs) ∙ (ap of_pairs same ∙ listed_pairs cs),
  λ same. sym (pairs_listed bs) ∙ (ap pairs_of same ∙ pairs_listed cs),
)

same_alternatives : (ts us : TreeValues) → alt ts ≡ alt us → ts ≡ us
same_alternatives ts us same = cc

pub same_choices : (b : Bool) (t u : Tree) (ts us : Trees) → t ≡ Alt ts → u ≡ Alt us
    → IsTrue b ↔ (map value_of (trees_in ts) ≡ map value_of (trees_in us))
    → IsTrue b ↔ (value_of t ≡ value_of u)
same_choices b t u ts us is are tells =
    let left : value_of t ≡ alt (tree_values (map value_of (trees_in ts))) =
    ap value_of is ∙ value_of-Alt ts in
    let right : value_of u ≡ alt (tree_values (map value_of (trees_in us))) =
    ap value_of are ∙ value_of-Alt us in (
      λ yes. left ∙ (ap (λ (vs : List TreeValue). alt (tree_values vs)) (tells.0 yes) ∙ sym right),
      λ same. tells.1 (same_values _ _ (same_alternatives _ _ (sym left ∙ (same ∙ right)))),
    )

same_parts : (bs cs : Branches) → union bs ≡ union cs → bs ≡ cs
same_parts bs cs same = cc

pub same_joined : (b : Bool) (t u : Tree) (bs cs : BranchList) → t ≡ Union bs → u ≡ Union cs
    → IsTrue b ↔ (branches_of bs ≡ branches_of cs) → IsTrue b ↔ (value_of t ≡ value_of u)
same_joined b t u bs cs is are tells =
    let left : value_of t ≡ union (branches_of bs) = ap value_of is in
    let right : value_of u ≡ union (branches_of cs) = ap value_of are in (
      λ yes. left ∙ (ap union (tells.0 yes) ∙ sym right),
      λ same. tells.1 (same_parts _ _ (sym left ∙ (same ∙ right))),
    )

pub same_unions : (b : Bool) (bs cs : BranchList) (xs ys : List Branch)
    → xs ≡ (out-Branches bs).items.items → ys ≡ (out-Branches cs).items.items
    → IsTrue b ↔ (map branch_value xs ≡ map branch_value ys)
    → IsTrue b ↔ (branches_of bs ≡ branches_of cs)
same_unions b bs cs xs ys is are tells =
    let left : branches_of bs ≡ listed xs = branches_of-out bs ∙ ap listed (sym is) in
    let right : branches_of cs ≡ listed ys = branches_of-out cs ∙ ap listed (sym are) in (
      λ yes. left ∙ ((same_branches xs ys).0 (tells.0 yes) ∙ sym right),
      λ same. tells.1 ((same_branches xs ys).1 (sym left ∙ (same ∙ right))),
    )

-- a test that is not refused
pub unnot : (b : Bool) → not b ≡ false → true ≡ b
unnot true is = refl
unnot false is = absurd (cc)

-- the labels of paths
module _ (ls ms : Labels) where
  pub of_other_count : (length ls ≡ length ms → ⊥) → IsTrue false ↔ (ls ≡ ms)
  of_other_count other = (λ no. absurd (cc), λ same. absurd (other (ap length same)))

  module _ (k : ℕ) (l m : Label) (within : k < length ls) (as_many : length ls ≡ length ms)
      (is : slice_get ls k ≡ Some l) (are : slice_get ms k ≡ Some m) where
    pub one_label_more : l ≡ m → take k ls ≡ take k ms → take (k + 1) ls ≡ take (k + 1) ms
    one_label_more same stands =
        let there : k < length ms = omega arith in
        rw (
          take_more ls k [] within,
          take_more ms k [] there,
          stands,
          get_or_from_slice_get ls k l [] is,
          get_or_from_slice_get ms k m [] are,
          same,
        ) refl

    pub other_label : (l ≡ m → ⊥) → IsTrue false ↔ (ls ≡ ms)
    other_label other = (
      λ no. absurd (cc),
      λ same. absurd (other (sym (get_or_from_slice_get ls k l [] is)
          ∙ (ap (λ (ks : Labels). get_or ks k []) same ∙ get_or_from_slice_get ms k m [] are))),
    )

  pub all_labels_same : (k : ℕ) → length ls ≤ k → length ls ≡ length ms → take k ls ≡ take k ms
      → IsTrue true ↔ (ls ≡ ms)
  all_labels_same k past as_many stands =
      let past_too : length ms ≤ k = omega arith in
      (λ _. sym (take_all k ls past) ∙ (stands ∙ take_all k ms past_too), λ _. refl)
