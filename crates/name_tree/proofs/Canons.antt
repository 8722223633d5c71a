-- The canonical text of a tree stands for it.
use Rattle.std.proofs.Common.{◌≡◌, ℕ, ◌^◌, ◌<◌, ◌≤◌, arith, true, false, List, [], ◌∷◌, ◌++◌, Some}
use Rattle.std.proofs.Common.{None, refl, sym, ap, subst, subst₂, append_assoc}
use Rattle.std.specs.Prelude.{◌||◌, codes}
use Rattle.std.proofs.lemmas.List.{append-nil}
use Rattle.name_tree.specs.Path.{Labels, canon_path}
use Rattle.name_tree.specs.Value.{TreeValue, leaf, neg, fail, empty, alt, union, TreeValues, none}
use Rattle.name_tree.specs.Value.{more, Branches, no_branch, branch, BranchValue, tree_values}
use Rattle.name_tree.specs.Value.{branches, one_or_alt, union_of}
use Rattle.name_tree.specs.Grammar.{AreBlanks, no_blank, blank, SpellsSimple, path, failing}
use Rattle.name_tree.specs.Grammar.{negative, nothing, group, SpellsBranch, bare, weighed}
use Rattle.name_tree.specs.Grammar.{SpellsUnion, branch as one_branch, branches as more_branches}
use Rattle.name_tree.specs.Grammar.{SpellsTree, union as one_union, unions, TreeText, tree}
use Rattle.name_tree.specs.Grammar.{PathText, path as path_text}
use Rattle.name_tree.specs.Canon.{canon_weight, is_alt, is_union, grouped, canon, canon_alts}
use Rattle.name_tree.specs.Canon.{canon_more_alts, canon_branches, canon_more_branches, count_names}
use Rattle.name_tree.specs.Canon.{count_branches, IsSound, AreSound, AreSoundBranches}
use Rattle.name_tree.specs.Canon.{AreByteLabels, HasLabels, HaveLabels, BranchesHaveLabels}
use Rattle.name_tree.proofs.CanonPaths.{path_spells, weight_spells}

space : AreBlanks (32 ∷ [])
space = blank refl no_blank

-- what a tree's canonical text spells: where a simple, a union or a tree may stand
record Spelled (t : TreeValue) : Type 0 where
  simple : SpellsSimple (grouped (is_alt t || is_union t) (canon t)) t
  parts : List BranchValue
  union_text : SpellsUnion (grouped (is_alt t) (canon t)) parts
  union_is : union_of parts ≡ t
  text : TreeText (canon t) t

-- a tree with no blanks round it
alone : {s : List ℕ} {vs : List TreeValue} → SpellsTree s vs → TreeText s (one_or_alt vs)
alone {s} {vs} r = subst (λ (x : List ℕ). TreeText x (one_or_alt vs)) (append-nil s)
    (tree no_blank r no_blank)

simple_spelled : {s : List ℕ} {t : TreeValue} → canon t ≡ s → is_alt t ≡ false → is_union t ≡ false
    → SpellsSimple s t → Spelled t
simple_spelled {s} {t} e p q r = record {
  simple = rw (p, q, e) r;
  parts = (None, t) ∷ [];
  union_text = rw (p, e) (one_branch (bare r));
  union_is = refl;
  text = rw e (alone (one_union (one_branch (bare r))));
}

abbrev list_of : TreeValues → List TreeValue
list_of none = []
list_of (more t ts) = t ∷ list_of ts

tree_values-list_of : (ts : TreeValues) → tree_values (list_of ts) ≡ ts
tree_values-list_of none = refl
tree_values-list_of (more t ts) = ap (more t) (tree_values-list_of ts)

abbrev parts_of : Branches → List BranchValue
parts_of no_branch = []
parts_of (branch n t bs) = (Some n, t) ∷ parts_of bs

branches-parts_of : (bs : Branches) → branches (parts_of bs) ≡ bs
branches-parts_of no_branch = refl
branches-parts_of (branch n t bs) = ap (branch n t) (branches-parts_of bs)

union_of-parts_of : (bs : Branches) → 1 ≤ count_branches bs → union_of (parts_of bs) ≡ union bs
union_of-parts_of no_branch h = absurd (omega arith)
union_of-parts_of (branch n t no_branch) h = refl
union_of-parts_of (branch n t (branch m u bs)) h =
    ap union (branches-parts_of (branch n t (branch m u bs)))

alt-list_of : (ts : TreeValues) → 2 ≤ count_names ts → one_or_alt (list_of ts) ≡ alt ts
alt-list_of none h = absurd (omega arith)
alt-list_of (more t none) h = absurd (omega arith)
alt-list_of (more t (more u us)) h = ap alt (tree_values-list_of (more t (more u us)))

in_parentheses : {s : List ℕ} {t : TreeValue} → TreeText s t → SpellsSimple (grouped true s) t
in_parentheses r = group r

alt_spelled : (ts : TreeValues) → 2 ≤ count_names ts → SpellsTree (canon_alts ts) (list_of ts)
    → Spelled (alt ts)
alt_spelled ts many r =
    let text : TreeText (canon_alts ts) (alt ts) =
    subst (λ (v : TreeValue). TreeText (canon_alts ts) v) (alt-list_of ts many) (alone r) in
    record {
      simple = group text;
      parts = (None, alt ts) ∷ [];
      union_text =
          one_branch (bare (group text));
      union_is = refl;
      text = text;
    }

union_spelled : (bs : Branches) → 1 ≤ count_branches bs
    → SpellsUnion (canon_branches bs) (parts_of bs) → Spelled (union bs)
union_spelled bs some r =
    let text : TreeText (canon_branches bs) (union bs) =
    subst (λ (v : TreeValue). TreeText (canon_branches bs) v) (union_of-parts_of bs some)
    (alone (one_union r)) in
    record {
      simple = group text;
      parts = parts_of bs;
      union_text = r;
      union_is =
          union_of-parts_of bs some;
      text = text;
    }

branch_spelled : (n : ℕ) (t : TreeValue) → n < 10 ^ 12 → Spelled t
    → SpellsBranch (canon_weight n ++ codes " * " ++ grouped (is_alt t || is_union t) (canon t))
    (Some n, t)
branch_spelled n t h r =
    let s : List ℕ = grouped (is_alt t || is_union t) (canon t) in
    let same : canon_weight n ++ 32 ∷ [] ++ codes "*" ++ 32 ∷ [] ++ s
    ≡ canon_weight n ++ codes " * " ++ s = simp append_assoc in
    subst (λ (x : List ℕ). SpellsBranch x (Some n, t)) same
    (weighed (weight_spells n h) space space r.simple)

-- one alternative, and the rest
more_alts : (s : List ℕ) (ps : List BranchValue) (v : TreeValue) → SpellsUnion s ps
    → union_of ps ≡ v → (u : TreeValue) (us : TreeValues)
    → SpellsTree (grouped (is_alt u) (canon u) ++ canon_more_alts us) (u ∷ list_of us)
    → SpellsTree (s ++ canon_more_alts (more u us)) (v ∷ u ∷ list_of us)
more_alts s ps v r e u us rs =
    let g : List ℕ = grouped (is_alt u) (canon u) in
    let same : s ++ 32 ∷ [] ++ codes "|" ++ 32 ∷ [] ++ (g ++ canon_more_alts us)
    ≡ s ++ (codes " | " ++ g ++ canon_more_alts us) = simp append_assoc in
    subst₂ SpellsTree same (ap (λ x. x ∷ u ∷ list_of us) e) (unions r space space rs)

one_alt : (s : List ℕ) (ps : List BranchValue) (v : TreeValue) → SpellsUnion s ps → union_of ps ≡ v
    → SpellsTree (s ++ []) (v ∷ [])
one_alt s ps v r e = subst₂ SpellsTree (sym (append-nil s)) (ap (λ x. x ∷ []) e) (one_union r)

more_parts : (s : List ℕ) (p : BranchValue) → SpellsBranch s p
    → (n : ℕ) (t : TreeValue) (bs : Branches)
    → SpellsUnion ((canon_weight n ++ codes " * " ++ grouped (is_alt t || is_union t) (canon t))
    ++ canon_more_branches bs) ((Some n, t) ∷ parts_of bs)
    → SpellsUnion (s ++ canon_more_branches (branch n t bs)) (p ∷ (Some n, t) ∷ parts_of bs)
more_parts s p r n t bs rs =
    let w : List ℕ = canon_weight n in
    let g : List ℕ = grouped (is_alt t || is_union t) (canon t) in
    let same : s ++ 32 ∷ [] ++ codes "&" ++ 32 ∷ []
    ++ ((w ++ codes " * " ++ g) ++ canon_more_branches bs)
    ≡ s ++ (codes " & " ++ w ++ codes " * " ++ g ++ canon_more_branches bs) = simp append_assoc in
    subst (λ (x : List ℕ). SpellsUnion x (p ∷ (Some n, t) ∷ parts_of bs)) same
    (more_branches r space space rs)

mutual
  spelled : (t : TreeValue) → IsSound t → HasLabels t → Spelled t
  spelled (leaf ls) h k = simple_spelled refl refl refl (path (path_spells ls k))
  spelled neg h k = simple_spelled refl refl refl negative
  spelled fail h k = simple_spelled refl refl refl failing
  spelled empty h k = simple_spelled refl refl refl nothing
  spelled (alt ts) h k = alt_spelled ts h.0 (first_alt ts h.0 h.2 k)
  spelled (union bs) h k = union_spelled bs h.0 (first_part bs h.0 h.2 k)

  first_alt : (ts : TreeValues) → 2 ≤ count_names ts → AreSound ts → HaveLabels ts
      → SpellsTree (canon_alts ts) (list_of ts)
  first_alt none many h k = absurd (omega arith)
  first_alt (more t ts) many h k = let r = spelled t h.0 k.0 in
      then_alts (grouped (is_alt t) (canon t)) r.parts t r.union_text r.union_is ts h.1 k.1

  then_alts : (s : List ℕ) (ps : List BranchValue) (v : TreeValue) → SpellsUnion s ps
      → union_of ps ≡ v → (ts : TreeValues) → AreSound ts → HaveLabels ts
      → SpellsTree (s ++ canon_more_alts ts) (v ∷ list_of ts)
  then_alts s ps v r e none h k = one_alt s ps v r e
  then_alts s ps v r e (more t ts) h k =
      let q = spelled t h.0 k.0 in more_alts s ps v r e t ts
      (then_alts (grouped (is_alt t) (canon t)) q.parts t q.union_text q.union_is ts h.1 k.1)

  first_part : (bs : Branches) → 1 ≤ count_branches bs → AreSoundBranches bs
      → BranchesHaveLabels bs → SpellsUnion (canon_branches bs) (parts_of bs)
  first_part no_branch some h k = absurd (omega arith)
  first_part (branch n t bs) some h k =
      then_parts (canon_weight n ++ codes " * " ++ grouped (is_alt t || is_union t) (canon t))
      (Some n, t) (branch_spelled n t h.0 (spelled t h.1 k.0)) bs h.2 k.1

  then_parts : (s : List ℕ) (p : BranchValue) → SpellsBranch s p → (bs : Branches)
      → AreSoundBranches bs → BranchesHaveLabels bs
      → SpellsUnion (s ++ canon_more_branches bs) (p ∷ parts_of bs)
  then_parts s p r no_branch h k = rw append-nil (one_branch r)
  then_parts s p r (branch n t bs) h k =
      more_parts s p r n t bs
      (then_parts (canon_weight n ++ codes " * " ++ grouped (is_alt t || is_union t) (canon t))
      (Some n, t) (branch_spelled n t h.0 (spelled t h.1 k.0)) bs h.2 k.1)

-- the canonical text of a tree stands for it
pub canon_stands : (t : TreeValue) → IsSound t → HasLabels t → TreeText (canon t) t
canon_stands t h k = (spelled t h k).text

pub path_stands : (ls : Labels) → AreByteLabels ls → PathText (canon_path ls) ls
path_stands ls h = subst (λ (s : List ℕ). PathText s ls) (append-nil (canon_path ls))
    (path_text no_blank (path_spells ls h) no_blank)
