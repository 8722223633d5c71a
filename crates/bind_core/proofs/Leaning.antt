-- A tree without what makes no lookup is walked as the tree itself: it tells the same, after the
-- same lookups.
use Rattle.std.proofs.Common.{◌≡◌, ℕ, Bool, true, false, List, [], ◌∷◌, ◌++◌, inl, inr, refl, sym}
use Rattle.std.proofs.Common.{ap, subst, ◌∙◌}
use Rattle.std.specs.Prelude.{◌||◌, ◌==◌, if◌then◌else◌}
use Rattle.addr_book.specs.Found.{Found}
use Rattle.name_tree.specs.Path.{Labels}
use Rattle.name_tree.specs.Value.{TreeValue, TreeValues, Branches, leaf, neg, fail, empty, alt}
use Rattle.name_tree.specs.Value.{union, none, more, no_branch, branch, append_rest}
use Rattle.name_tree.specs.Lean.{tried_before, choice, Parts, part_before, branches_then, marks}
use Rattle.name_tree.specs.Lean.{union_left, lean, lean_all, lean_each}
use Rattle.dtab_table.specs.LeanTrees.{unless_neg, lean_trees}
use Rattle.bind_core.specs.Delegation.{Ending, too_deep, Visit, Told, Evaluated, or_else}
use Rattle.bind_core.specs.Delegation.{is_too_deep, is_failing, is_empty, some_end, found_at}
use Rattle.bind_core.specs.Delegation.{found_in, kept, joint_visits, together, walk, walk_all}
use Rattle.bind_core.specs.Delegation.{walk_each, first_of}
use Rattle.bind_core.specs.Laws.{AreWalkedLean}
use Rattle.dtab_table.proofs.LeanRests.{lean-rest}
use Rattle.bind_core.proofs.Stacks.{ended}
use Rattle.bind_core.proofs.Trees.{zero_or}

or_swap : (a b c : Bool) → (a || (b || c)) ≡ (b || (a || c))
or_swap true true c = refl
or_swap true false c = refl
or_swap false true c = refl
or_swap false false c = refl

or_turned : (a b : Bool) → (a || b) ≡ (b || a)
or_turned true true = refl
or_turned true false = refl
or_turned false true = refl
or_turned false false = refl

or_false : (a : Bool) → (a || false) ≡ a
or_false true = refl
or_false false = refl

or_assoc : (a b c : Bool) → (a || (b || c)) ≡ ((a || b) || c)
or_assoc true b c = refl
or_assoc false b c = refl

-- ---- alternatives
tried : (look : Labels → Told) (t : TreeValue) (ts : TreeValues)
    → walk_all look (tried_before t ts) ≡ or_else (walk look t) (walk_all look ts)
tried look (leaf path) ts = refl
tried look neg ts = refl
tried look fail ts = refl
tried look empty ts = refl
tried look (alt us) ts = refl
tried look (union bs) ts = refl

chosen : (look : Labels → Told) (ts : TreeValues) → walk look (choice ts) ≡ walk_all look ts
chosen look none = refl
chosen look (more t none) = sym (ended (walk look t))
chosen look (more t (more u us)) = refl

-- ---- branches: others and two marks come together to the same
pub record AreSame (fails lacks : Bool) (xs bs : List Evaluated) : Type 0 where
  pub deep : some_end is_too_deep xs ≡ some_end is_too_deep bs
  pub found : found_in xs ≡ found_in bs
  pub failing : (fails || some_end is_failing xs) ≡ some_end is_failing bs
  pub lacking : (lacks || some_end is_empty xs) ≡ some_end is_empty bs
  pub visits : joint_visits xs ≡ joint_visits bs

one_more : (fails lacks : Bool) (xs bs : List Evaluated) (e : Evaluated) → AreSame fails lacks xs bs
    → AreSame fails lacks (e ∷ xs) (e ∷ bs)
one_more fails lacks xs bs e same = record {
  deep = ap (λ (b : Bool). is_too_deep e.told.0 || b) same.deep;
  found = ap (λ (fs : List (ℕ × Found)). found_at e.weight e.told.0 ++ fs) same.found;
  failing = or_swap fails (is_failing e.told.0) (some_end is_failing xs)
      ∙ ap (λ (b : Bool). is_failing e.told.0 || b) same.failing;
  lacking = or_swap lacks (is_empty e.told.0) (some_end is_empty xs)
      ∙ ap (λ (b : Bool). is_empty e.told.0 || b) same.lacking;
  visits = ap (λ (vs : List Visit). e.told.1 ++ (if is_too_deep e.told.0 then [] else vs))
      same.visits;
}

abbrev Holds : (Labels → Told) → Parts → List Evaluated → Type 0
Holds look p bs = AreSame p.fails p.lacks (walk_each look p.branches) bs

-- one branch more, which is lean
with_lookups : (look : Labels → Told) (n : ℕ) (t : TreeValue) (p : Parts) (bs : List Evaluated)
    → (n == 0) ≡ false → Holds look p bs
    → AreSame p.fails p.lacks (walk_each look (branch n t p.branches))
    (record { weight = n; told = walk look t } ∷ bs)
with_lookups look n t p bs some same =
    rw some (one_more p.fails p.lacks (walk_each look p.branches) bs
    (record { weight = n; told = walk look t }) same)

part : (look : Labels → Told) (n : ℕ) (t : TreeValue) (p : Parts) (bs : List Evaluated)
    → (n == 0) ≡ false → Holds look p bs
    → Holds look (part_before n t p) (record { weight = n; told = walk look t } ∷ bs)
part look n (leaf path) p bs some same = with_lookups look n (leaf path) p bs some same
part look n (alt ts) p bs some same = with_lookups look n (alt ts) p bs some same
part look n (union cs) p bs some same = with_lookups look n (union cs) p bs some same
part look n neg p bs some same = record {
  deep = same.deep;
  found = same.found;
  failing = same.failing;
  lacking = same.lacking;
  visits = same.visits;
}
part look n fail p bs some same = record {
  deep = same.deep;
  found = same.found;
  failing = refl;
  lacking = same.lacking;
  visits = same.visits;
}
part look n empty p bs some same = record {
  deep = same.deep;
  found = same.found;
  failing = same.failing;
  lacking = refl;
  visits = same.visits;
}

-- ---- marks behind other branches
walk_each-then : (look : Labels → Told) (bs cs : Branches)
    → walk_each look (branches_then bs cs) ≡ walk_each look bs ++ walk_each look cs
walk_each-then look no_branch cs = refl
walk_each-then look (branch n t bs) cs = elim (zero_or n) [
  | inl zero ↦ rw zero (walk_each-then look bs cs)
  | inr some ↦ rw some (ap (λ (es : List Evaluated). record { weight = n; told = walk look t } ∷ es)
      (walk_each-then look bs cs))
]

some_end-append : (ends : Ending → Bool) (es ms : List Evaluated)
    → some_end ends (es ++ ms) ≡ (some_end ends es || some_end ends ms)
some_end-append ends [] ms = refl
some_end-append ends (e ∷ es) ms = ap (λ (b : Bool). ends e.told.0 || b)
    (some_end-append ends es ms) ∙ or_assoc (ends e.told.0) (some_end ends es) (some_end ends ms)

-- they find nothing, make no lookup, and none is too deep
pub record AreMarks (fails lacks : Bool) (ms : List Evaluated) : Type 0 where
  pub deep : some_end is_too_deep ms ≡ false
  pub found : found_in ms ≡ []
  pub failing : some_end is_failing ms ≡ fails
  pub lacking : some_end is_empty ms ≡ lacks
  pub visits : joint_visits ms ≡ []

are_marks : (look : Labels → Told) (fails lacks : Bool)
    → AreMarks fails lacks (walk_each look (marks fails lacks))
are_marks look true true = record {
  deep = refl;
  found = refl;
  failing = refl;
  lacking = refl;
  visits = refl;
}
are_marks look true false = record {
  deep = refl;
  found = refl;
  failing = refl;
  lacking = refl;
  visits = refl;
}
are_marks look false true = record {
  deep = refl;
  found = refl;
  failing = refl;
  lacking = refl;
  visits = refl;
}
are_marks look false false = record {
  deep = refl;
  found = refl;
  failing = refl;
  lacking = refl;
  visits = refl;
}

found_in-append : (es ms : List Evaluated) → found_in ms ≡ [] → found_in (es ++ ms) ≡ found_in es
found_in-append [] ms nothing = nothing
found_in-append (e ∷ es) ms nothing =
    ap (λ (fs : List (ℕ × Found)). found_at e.weight e.told.0 ++ fs) (found_in-append es ms nothing)

visits-append : (es ms : List Evaluated) → joint_visits ms ≡ []
    → joint_visits (es ++ ms) ≡ joint_visits es
visits-append [] ms nothing = nothing
visits-append (e ∷ es) ms nothing = ap
    (λ (vs : List Visit). e.told.1 ++ (if is_too_deep e.told.0 then [] else vs))
    (visits-append es ms nothing)

with_marks : (fails lacks : Bool) (es ms bs : List Evaluated) → AreMarks fails lacks ms
    → AreSame fails lacks es bs → AreSame false false (es ++ ms) bs
with_marks fails lacks es ms bs are same = record {
  deep = some_end-append is_too_deep es ms
      ∙ (rw are.deep (or_false (some_end is_too_deep es) ∙ same.deep));
  found = found_in-append es ms are.found ∙ same.found;
  failing = some_end-append is_failing es ms
      ∙ (rw are.failing (or_turned (some_end is_failing es) fails ∙ same.failing));
  lacking = some_end-append is_empty es ms
      ∙ (rw are.lacking (or_turned (some_end is_empty es) lacks ∙ same.lacking));
  visits = visits-append es ms are.visits ∙ same.visits;
}

told_is : (deep deeper fails fails_too lacks lacks_too : Bool) (found found_too : List (ℕ × Found))
    (visits visits_too : List Visit)
    → deep ≡ deeper → found ≡ found_too → fails ≡ fails_too → lacks ≡ lacks_too
    → visits ≡ visits_too
    → let x : Told = (if deep then too_deep else kept found fails lacks, visits) in
    let y : Told = (if deeper then too_deep else kept found_too fails_too lacks_too, visits_too) in
    x ≡ y
told_is deep deeper fails fails_too lacks lacks_too found found_too visits visits_too a b c d e =
    rw (a, b, c, d, e) refl

-- what is left of a union of other branches and its marks
union_of : (look : Labels → Told) (fails lacks : Bool) (cs : Branches) (bs : List Evaluated)
    → AreSame fails lacks (walk_each look cs) bs
    → walk look (union (branches_then cs (marks fails lacks))) ≡ together bs
union_of look fails lacks cs bs same =
    let es = walk_each look (branches_then cs (marks fails lacks)) in
    let joined : AreSame false false es bs =
    subst (λ (xs : List Evaluated). AreSame false false xs bs)
    (sym (walk_each-then look cs (marks fails lacks)))
    (with_marks fails lacks (walk_each look cs) (walk_each look (marks fails lacks)) bs
    (are_marks look fails lacks) same) in
    told_is (some_end is_too_deep es) (some_end is_too_deep bs) (some_end is_failing es)
    (some_end is_failing bs) (some_end is_empty es) (some_end is_empty bs) (found_in es)
    (found_in bs) (joint_visits es) (joint_visits bs)
    joined.deep joined.found joined.failing joined.lacking joined.visits

-- what is left of a union comes to the same
left : (look : Labels → Told) (fails lacks : Bool) (rest : Branches) (bs : List Evaluated)
    → AreSame fails lacks (walk_each look rest) bs
    → walk look (union_left fails lacks rest) ≡ together bs
left look true lacks no_branch bs same =
    told_is false (some_end is_too_deep bs) true (some_end is_failing bs) (lacks || false)
    (some_end is_empty bs) [] (found_in bs) [] (joint_visits bs)
    same.deep same.found same.failing same.lacking same.visits
left look false true no_branch bs same =
    told_is false (some_end is_too_deep bs) false (some_end is_failing bs) true
    (some_end is_empty bs) [] (found_in bs) [] (joint_visits bs)
    same.deep same.found same.failing same.lacking same.visits
left look false false no_branch bs same =
    told_is false (some_end is_too_deep bs) false (some_end is_failing bs) false
    (some_end is_empty bs) [] (found_in bs) [] (joint_visits bs)
    same.deep same.found same.failing same.lacking same.visits
left look true true (branch n t cs) bs same = union_of look true true (branch n t cs) bs same
left look true false (branch n t cs) bs same = union_of look true false (branch n t cs) bs same
left look false true (branch n t cs) bs same = union_of look false true (branch n t cs) bs same
left look false false (branch n t cs) bs same = union_of look false false (branch n t cs) bs same

module _ (look : Labels → Told) where
  mutual
    pub walk-lean : (t : TreeValue) → walk look (lean t) ≡ walk look t
    walk-lean (leaf path) = refl
    walk-lean neg = refl
    walk-lean fail = refl
    walk-lean empty = refl
    walk-lean (alt ts) = chosen look (lean_all ts) ∙ walk_all-lean ts
    walk-lean (union bs) = left look (lean_each bs).fails (lean_each bs).lacks
        (lean_each bs).branches (walk_each look bs) (walk_each-lean bs)

    walk_all-lean : (ts : TreeValues) → walk_all look (lean_all ts) ≡ walk_all look ts
    walk_all-lean none = refl
    walk_all-lean (more t ts) =
        tried look (lean t) (lean_all ts)
        ∙ (ap (λ (x : Told). or_else x (walk_all look (lean_all ts))) (walk-lean t)
        ∙ ap (or_else (walk look t)) (walk_all-lean ts))

    walk_each-lean : (bs : Branches) → Holds look (lean_each bs) (walk_each look bs)
    walk_each-lean no_branch = record {
      deep = refl;
      found = refl;
      failing = refl;
      lacking = refl;
      visits = refl;
    }
    walk_each-lean (branch n t bs) = elim (zero_or n) [
      | inl zero ↦ rw zero (walk_each-lean bs)
      | inr some ↦ rw some
          (subst (λ (x : Told). Holds look (part_before n (lean t) (lean_each bs))
          (record { weight = n; told = x } ∷ walk_each look bs)) (walk-lean t)
          (part look n (lean t) (lean_each bs) (walk_each look bs) some (walk_each-lean bs)))
    ]

  -- ---- a list of trees
  unless : (t : TreeValue) (ts : List TreeValue)
      → first_of look (unless_neg t ts) ≡ or_else (walk look t) (first_of look ts)
  unless (leaf path) ts = refl
  unless neg ts = refl
  unless fail ts = refl
  unless empty ts = refl
  unless (alt us) ts = refl
  unless (union bs) ts = refl

  pub first_of-lean : (ts : List TreeValue) → first_of look (lean_trees ts) ≡ first_of look ts
  first_of-lean [] = refl
  first_of-lean (t ∷ ts) =
      unless (lean t) (lean_trees ts)
      ∙ (ap (λ (x : Told). or_else x (first_of look (lean_trees ts))) (walk-lean t)
      ∙ ap (or_else (walk look t)) (first_of-lean ts))

pub are_walked_lean : AreWalkedLean
are_walked_lean look t rest = ap (walk look) (sym (lean-rest t rest))
    ∙ walk-lean look (append_rest t rest)
