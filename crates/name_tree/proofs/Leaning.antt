-- Trees without what makes no lookup, in terms of the lists that the code goes over.
use Rattle.std.proofs.Common.{◌≡◌, ℕ, ◌+◌, ◌<◌, ◌≤◌, List, [], ◌∷◌, ◌++◌, Bool, true, false, length}
use Rattle.std.proofs.Common.{map, drop, get_or, refl, sym, ap, ◌∙◌, arith, drop-cons, add-one}
use Rattle.std.specs.Prelude.{◌||◌, not, IsTrue, if◌then◌else◌}
use Rattle.std.proofs.lemmas.List.{map-append, drop_all}
use Rattle.name_tree.specs.declared.tree.Tree.{Tree, Alt}
use Rattle.name_tree.specs.declared.tree.Trees.{Trees}
use Rattle.name_tree.specs.declared.tree.Branch.{Branch}
use Rattle.name_tree.specs.Value.{TreeValue, TreeValues, Branches, leaf, neg, fail, empty, alt}
use Rattle.name_tree.specs.Value.{union, none, more, no_branch, branch, tree_values, one_or_alt}
use Rattle.name_tree.specs.Tree.{value_of, listed}
use Rattle.name_tree.specs.Lean.{tried_before, ends_choice, choice, Parts, no_parts, part_before}
use Rattle.name_tree.specs.Lean.{branches_then, mark_if, marks, union_left, lean, lean_all}
use Rattle.name_tree.specs.Lean.{lean_each, joined_parts, values_then}
use Rattle.name_tree.proofs.Bridge.{value_of-Alt}

pub refuted : {P : Type 0} (b : Bool) → (P → IsTrue b) → b ≡ false → P → ⊥
refuted true test is p = cc
refuted false test is p = let h : IsTrue false = test p in cc

or_false : (b : Bool) → (b || false) ≡ b
or_false true = refl
or_false false = refl

parts_same : (bs cs : Branches) (f g l m : Bool) → bs ≡ cs → f ≡ g → l ≡ m → let x : Parts =
    record { branches = bs; fails = f; lacks = l } in let y : Parts =
    record { branches = cs; fails = g; lacks = m } in x ≡ y
parts_same bs cs f g l m a b c = rw (a, b, c) refl

-- ---- alternatives
pub then_none : (us : List TreeValue) → values_then us none ≡ tree_values us
then_none [] = refl
then_none (u ∷ us) = ap (more u) (then_none us)

snoc_then : (us : List TreeValue) (u : TreeValue) (ts : TreeValues)
    → values_then (us ++ u ∷ []) ts ≡ values_then us (more u ts)
snoc_then [] u ts = refl
snoc_then (v ∷ us) u ts = ap (more v) (snoc_then us u ts)

-- a negative one is left out
pub put_neg : (us : List TreeValue) (t : TreeValue) → neg ≡ t → (ts : TreeValues)
    → values_then us ts ≡ values_then us (tried_before t ts)
put_neg us t is ts = rw (sym is) refl

-- any other one is put behind the others, and `!` and `$` end them
tried_as : (t : TreeValue) → (neg ≡ t → ⊥) → (ts : TreeValues)
    → more t (if not (ends_choice t) then ts else none) ≡ tried_before t ts
tried_as (leaf path) some ts = refl
tried_as neg some ts = absurd (some refl)
tried_as fail some ts = refl
tried_as empty some ts = refl
tried_as (alt us) some ts = refl
tried_as (union bs) some ts = refl

pub put_any : (old new : List Tree) (t : Tree) (ends : Bool) → (neg ≡ value_of t → ⊥)
    → ends ≡ ends_choice (value_of t) → new ≡ old ++ t ∷ [] → (ts : TreeValues)
    → values_then (map value_of new) (if not ends then ts else none)
    ≡ values_then (map value_of old) (tried_before (value_of t) ts)
put_any old new t ends some is pushed ts =
    rw (pushed, map-append, is)
    (snoc_then (map value_of old) (value_of t)
    (if not (ends_choice (value_of t)) then ts else none)
    ∙ ap (values_then (map value_of old)) (tried_as (value_of t) some ts))

-- one alternative more
pub alternative_more : (items : List Tree) (i : ℕ) (t made : Tree) (old new : List Tree)
    (goes_on : Bool) (whole : TreeValues) → i < length items → t ≡ get_or items i t
    → value_of made ≡ lean (value_of t)
    → ((ts : TreeValues) → values_then (map value_of new) (if goes_on then ts else none)
    ≡ values_then (map value_of old) (tried_before (value_of made) ts))
    → values_then (map value_of old) (lean_all (tree_values (map value_of (drop i items)))) ≡ whole
    → values_then (map value_of new)
    (if goes_on then lean_all (tree_values (map value_of (drop (i + 1) items))) else none) ≡ whole
alternative_more items i t made old new goes_on whole within is made_is put stands =
    let rest = lean_all (tree_values (map value_of (drop (i + 1) items))) in
    let cut : lean_all (tree_values (map value_of (drop i items)))
    ≡ tried_before (lean (value_of t)) rest = rw (drop-cons items i t, ← is, add-one) refl in
    put rest ∙ (rw made_is (sym (ap (values_then (map value_of old)) cut)) ∙ stands)

-- none behind it is tried
pub alternatives_end : (items : List Tree) (i : ℕ) (t made : Tree) (old new : List Tree)
    (goes_on : Bool) (whole : TreeValues) → goes_on ≡ false → i < length items
    → t ≡ get_or items i t → value_of made ≡ lean (value_of t)
    → ((ts : TreeValues) → values_then (map value_of new) (if goes_on then ts else none)
    ≡ values_then (map value_of old) (tried_before (value_of made) ts))
    → values_then (map value_of old) (lean_all (tree_values (map value_of (drop i items)))) ≡ whole
    → tree_values (map value_of new) ≡ whole
alternatives_end items i t made old new goes_on whole ends within is made_is put stands =
    let told = alternative_more items i t made old new goes_on whole within is made_is put stands in
    sym (then_none (map value_of new)) ∙ (rw ends at told)

-- all were seen
pub alternatives_seen : (items : List Tree) (i : ℕ) (old : List Tree) (whole : TreeValues)
    → length items ≤ i → values_then (map value_of old)
    (lean_all (tree_values (map value_of (drop i items)))) ≡ whole
    → tree_values (map value_of old) ≡ whole
alternatives_seen items i old whole past stands =
    let no_rest : drop i items ≡ [] = drop_all i items past in
    sym (then_none (map value_of old)) ∙ (rw no_rest at stands)

-- what is left of a choice
pub alt_is_lean : (tree : Tree) (trees : Trees) (left : List Tree) (choice_of : Tree)
    → tree ≡ Alt trees → tree_values (map value_of left)
    ≡ lean_all (tree_values (map value_of trees.items.items))
    → value_of choice_of ≡ choice (tree_values (map value_of left))
    → value_of choice_of ≡ lean (value_of tree)
alt_is_lean tree trees left choice_of is left_is made =
    made ∙ (ap choice left_is
    ∙ sym (ap (λ (t : Tree). lean (value_of t)) is ∙ ap lean (value_of-Alt trees)))

-- an alternation of what is left
pub lean_choice_is : (ts : List TreeValue) → 0 < length ts → one_or_alt ts ≡ choice (tree_values ts)
lean_choice_is [] some = absurd (omega arith)
lean_choice_is (t ∷ []) some = refl
lean_choice_is (t ∷ u ∷ us) some = refl

-- ---- branches
then_snoc : (bs : List Branch) (b : Branch) (more_of : Branches)
    → branches_then (listed (bs ++ b ∷ [])) more_of
    ≡ branches_then (listed bs) (branch b.weight (value_of b.tree) more_of)
then_snoc [] b more_of = refl
then_snoc (x ∷ bs) b more_of = ap (branch x.weight (value_of x.tree)) (then_snoc bs b more_of)

then_no_branch : (bs : Branches) → branches_then bs no_branch ≡ bs
then_no_branch no_branch = refl
then_no_branch (branch n t bs) = ap (branch n t) (then_no_branch bs)

-- a tree that is no mark is a branch
part_as : (n : ℕ) (t : TreeValue) (p : Parts) → (neg ≡ t → ⊥) → (fail ≡ t → ⊥) → (empty ≡ t → ⊥)
    → record p { branches = branch n t p.branches } ≡ part_before n t p
part_as n (leaf path) p some one full = refl
part_as n neg p some one full = absurd (some refl)
part_as n fail p some one full = absurd (one refl)
part_as n empty p some one full = absurd (full refl)
part_as n (alt ts) p some one full = refl
part_as n (union bs) p some one full = refl

pub put_branch : (old new : List Branch) (fails lacks : Bool) (n : ℕ) (t : Tree)
    → (neg ≡ value_of t → ⊥) → (fail ≡ value_of t → ⊥) → (empty ≡ value_of t → ⊥)
    → new ≡ old ++ record { weight = n; tree = t } ∷ [] → (p : Parts)
    → joined_parts (record { branches = listed new; fails = fails; lacks = lacks }) p
    ≡ joined_parts (record { branches = listed old; fails = fails; lacks = lacks })
    (part_before n (value_of t) p)
put_branch old new fails lacks n t some one full pushed p =
    let found : Branches → Parts = λ bs.
    record { branches = bs; fails = fails || p.fails; lacks = lacks || p.lacks } in
    let behind : branches_then (listed new) p.branches
    ≡ branches_then (listed old) (branch n (value_of t) p.branches) =
    rw pushed (then_snoc old (record { weight = n; tree = t }) p.branches) in
    ap found behind ∙ ap (joined_parts
    (record { branches = listed old; fails = fails; lacks = lacks }))
    (part_as n (value_of t) p some one full)

-- a mark behind branches
pub put_mark : (old new : List Branch) (t : Tree) (wanted : Bool) → wanted ≡ true
    → new ≡ old ++ record { weight = 1; tree = t } ∷ [] → (bs : Branches)
    → branches_then (listed new) bs ≡ branches_then (listed old) (mark_if wanted (value_of t) bs)
put_mark old new t wanted is pushed bs =
    rw (pushed, is) (then_snoc old (record { weight = 1; tree = t }) bs)

union_is : (fails lacks : Bool) (bs : List Branch) → 0 < length bs
    → union (branches_then (listed bs) (marks fails lacks)) ≡ union_left fails lacks (listed bs)
union_is fails lacks [] some = absurd (omega arith)
union_is true true (b ∷ bs) some = refl
union_is true false (b ∷ bs) some = refl
union_is false true (b ∷ bs) some = refl
union_is false false (b ∷ bs) some = refl

-- the marks behind all branches
pub union_ends : (fails lacks : Bool) (found failing all : List Branch) (last : Branches)
    → 0 < length found
    → ((bs : Branches) → branches_then (listed failing) bs
    ≡ branches_then (listed found) (mark_if fails fail bs))
    → ((bs : Branches) → branches_then (listed all) bs
    ≡ branches_then (listed failing) (mark_if lacks empty bs))
    → last ≡ listed all → union last ≡ union_left fails lacks (listed found)
union_ends fails lacks found failing all last some first second is =
    ap union (is ∙ (sym (then_no_branch (listed all))
    ∙ (second no_branch ∙ first (mark_if lacks empty no_branch)))) ∙ union_is fails lacks found some

pub no_branch_is_left : (fails lacks : Bool) (found : List Branch) → found ≡ []
    → union_left fails lacks no_branch ≡ union_left fails lacks (listed found)
no_branch_is_left fails lacks found is =
    ap (λ (bs : List Branch). union_left fails lacks (listed bs)) (sym is)

-- one branch more
abbrev Left : List Branch → ℕ → Parts
Left items i = lean_each (listed (drop i items))

-- all were seen
joined_none : (p : Parts) → joined_parts p no_parts ≡ p
joined_none p = let one = then_no_branch p.branches in let two = or_false p.fails in
    let three = or_false p.lacks in parts_same _ _ _ _ _ _ one two three

pub branches_seen : (items : List Branch) (i : ℕ) (p whole : Parts) → length items ≤ i
    → joined_parts p (Left items i) ≡ whole → p ≡ whole
branches_seen items i p whole past stands =
    let no_rest : drop i items ≡ [] = drop_all i items past in
    sym (joined_none p) ∙ (rw no_rest at stands)
