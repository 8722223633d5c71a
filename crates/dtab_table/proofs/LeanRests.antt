-- Labels behind the leaves of a tree change nothing of what it is without what makes no lookup.
use Rattle.std.proofs.Common.{◌≡◌, ℕ, Bool, true, false, ◌⊎◌, inl, inr, refl, sym, ap, ◌∙◌}
use Rattle.std.specs.Prelude.{◌==◌}
use Rattle.name_tree.specs.Path.{Labels}
use Rattle.name_tree.specs.Value.{TreeValue, TreeValues, Branches, leaf, neg, fail, empty, alt}
use Rattle.name_tree.specs.Value.{union, none, more, no_branch, branch, append_rest}
use Rattle.name_tree.specs.Value.{append_rest_all, append_rest_branches}
use Rattle.name_tree.specs.Lean.{tried_before, choice, Parts, part_before, branches_then, marks}
use Rattle.name_tree.specs.Lean.{union_left, union_of_parts, lean, lean_all, lean_each}

tried-rest : (t : TreeValue) (ts : TreeValues) (rest : Labels)
    → tried_before (append_rest t rest) (append_rest_all ts rest)
    ≡ append_rest_all (tried_before t ts) rest
tried-rest (leaf path) ts rest = refl
tried-rest neg ts rest = refl
tried-rest fail ts rest = refl
tried-rest empty ts rest = refl
tried-rest (alt us) ts rest = refl
tried-rest (union bs) ts rest = refl

choice-rest : (ts : TreeValues) (rest : Labels) → choice (append_rest_all ts rest)
    ≡ append_rest (choice ts) rest
choice-rest none rest = refl
choice-rest (more t none) rest = refl
choice-rest (more t (more u us)) rest = refl

abbrev parts_rest : Parts → Labels → Parts
parts_rest p rest = record p { branches = append_rest_branches p.branches rest }

part-rest : (n : ℕ) (t : TreeValue) (p : Parts) (rest : Labels)
    → part_before n (append_rest t rest) (parts_rest p rest) ≡ parts_rest (part_before n t p) rest
part-rest n (leaf path) p rest = refl
part-rest n neg p rest = refl
part-rest n fail p rest = refl
part-rest n empty p rest = refl
part-rest n (alt ts) p rest = refl
part-rest n (union bs) p rest = refl

marks-rest : (fails lacks : Bool) (rest : Labels)
    → append_rest_branches (marks fails lacks) rest ≡ marks fails lacks
marks-rest true true rest = refl
marks-rest true false rest = refl
marks-rest false true rest = refl
marks-rest false false rest = refl

then-rest : (bs : Branches) (fails lacks : Bool) (rest : Labels)
    → append_rest_branches (branches_then bs (marks fails lacks)) rest
    ≡ branches_then (append_rest_branches bs rest) (marks fails lacks)
then-rest no_branch fails lacks rest = marks-rest fails lacks rest
then-rest (branch n t bs) fails lacks rest =
    ap (branch n (append_rest t rest)) (then-rest bs fails lacks rest)

union_left-rest : (fails lacks : Bool) (bs : Branches) (rest : Labels)
    → union_left fails lacks (append_rest_branches bs rest)
    ≡ append_rest (union_left fails lacks bs) rest
union_left-rest true lacks no_branch rest = refl
union_left-rest false true no_branch rest = refl
union_left-rest false false no_branch rest = refl
union_left-rest true true (branch n t bs) rest =
    ap union (sym (then-rest (branch n t bs) true true rest))
union_left-rest true false (branch n t bs) rest =
    ap union (sym (then-rest (branch n t bs) true false rest))
union_left-rest false true (branch n t bs) rest =
    ap union (sym (then-rest (branch n t bs) false true rest))
union_left-rest false false (branch n t bs) rest =
    ap union (sym (then-rest (branch n t bs) false false rest))

cases_of : (b : Bool) → (b ≡ true) ⊎ (b ≡ false)
cases_of true = inl refl
cases_of false = inr refl

mutual
  pub lean-rest : (t : TreeValue) (rest : Labels) → lean (append_rest t rest)
      ≡ append_rest (lean t) rest
  lean-rest (leaf path) rest = refl
  lean-rest neg rest = refl
  lean-rest fail rest = refl
  lean-rest empty rest = refl
  lean-rest (alt ts) rest = ap choice (lean_all-rest ts rest) ∙ choice-rest (lean_all ts) rest
  lean-rest (union bs) rest = ap union_of_parts (lean_each-rest bs rest)
      ∙ union_left-rest (lean_each bs).fails (lean_each bs).lacks (lean_each bs).branches rest

  lean_all-rest : (ts : TreeValues) (rest : Labels)
      → lean_all (append_rest_all ts rest) ≡ append_rest_all (lean_all ts) rest
  lean_all-rest none rest = refl
  lean_all-rest (more t ts) rest = rw (lean-rest t rest, lean_all-rest ts rest)
      (tried-rest (lean t) (lean_all ts) rest)

  lean_each-rest : (bs : Branches) (rest : Labels) → lean_each (append_rest_branches bs rest)
      ≡ parts_rest (lean_each bs) rest
  lean_each-rest no_branch rest = refl
  lean_each-rest (branch n t bs) rest = elim (cases_of (n == 0)) [
    | inl zero ↦ rw zero (lean_each-rest bs rest)
    | inr some ↦ rw some (rw (lean-rest t rest, lean_each-rest bs rest)
        (part-rest n (lean t) (lean_each bs) rest))
  ]
