-- The branches of a union, as the code keeps them and as they are written.
use Rattle.std.proofs.Common.{◌≡◌, ℕ, List, [], ◌∷◌, length, map, true, false, Option, Some, None}
use Rattle.std.proofs.Common.{refl, sym, ap, subst, ◌∙◌}
use Rattle.std.proofs.lemmas.Bool.{false≢true}
use Rattle.std.specs.Prelude.{All, IsNone, unwrap_or}
use Rattle.std.proofs.lemmas.List.Elements.{All-cons, All-nil}
use Rattle.name_tree.specs.declared.union.WrittenBranch.{WrittenBranch}
use Rattle.name_tree.specs.declared.tree.Branch.{Branch}
use Rattle.name_tree.specs.declared.tree.Branches.{Branches as BranchList}
use Rattle.name_tree.specs.Value.{TreeValue, union, branch, branches, one_whole, lone, union_of}
use Rattle.name_tree.specs.Tree.{value_of, branches_of, listed}
use Rattle.name_tree.specs.Parts.{part_of, branch_in}

listed-map : (ps : List WrittenBranch) → listed (map branch_in ps) ≡ branches (map part_of ps)
listed-map [] = refl
listed-map (p ∷ ps) = ap (branch (unwrap_or p.weight one_whole) (value_of p.tree)) (listed-map ps)

lone_is : (w : Option ℕ) (v : TreeValue) → (IsNone w → ⊥)
    → lone w v ≡ union (branches ((w, v) ∷ []))
lone_is None v weighed = absurd (weighed refl)
lone_is (Some n) v weighed = refl

abbrev AreUnweighed : List WrittenBranch → Type 0
AreUnweighed ps = All (λ part. IsNone part.weight) ps

union_of-map : (ps : List WrittenBranch) → ((length ps ≡ 1) × AreUnweighed ps → ⊥)
    → union_of (map part_of ps) ≡ union (branches (map part_of ps))
union_of-map [] other = refl
union_of-map (p ∷ []) other = lone_is p.weight (value_of p.tree)
    (λ none. other (
      refl,
      All-cons (λ part. IsNone part.weight) p [] none
          (All-nil (λ part. IsNone part.weight)),
    ))
union_of-map (p ∷ q ∷ ps) other = refl

pub union_is : (ps shown : List WrittenBranch) (bs : List Branch) (made : BranchList) → shown ≡ ps
    → ((length shown ≡ 1) × AreUnweighed shown → false ≡ true) → bs ≡ map branch_in ps
    → branches_of made ≡ listed bs → union (branches_of made) ≡ union_of (map part_of ps)
union_is ps shown bs made seen other same is =
    ap union (is ∙ (ap listed same ∙ listed-map ps))
    ∙ sym (union_of-map ps
    (λ h. false≢true (other
    (subst (λ (qs : List WrittenBranch). (length qs ≡ 1) × AreUnweighed qs) (sym seen) h))))
