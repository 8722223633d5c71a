-- Names that compare as equal are the same bytes.
use Rattle.std.proofs.Common.{◌≡◌, ℕ, true, List, refl, sym, subst}
use Rattle.std.specs.Bool.{Decides}
use Rattle.std.specs.Str.{bytes_eq}
use Rattle.std.specs.declared.cmp.Ordering.{Ordering}
use Rattle.std.specs.declared.cmp.Ordering.TheVariants.{Less, Equal, Greater}
use Rattle.std.specs.Ordering.{nat_cmp, eq_by_cmp, is_eq}
use Rattle.std.specs.Cmp.Lexicographic.{slice_cmp, nat_list_cmp_total}
use Rattle.std.specs.FinMap.{nat_cmp-IsAntisymmetric, slice_cmp-IsAntisymmetric}
use Rattle.std.proofs.lemmas.Cmp.{eq_by_cmp_equiv}
use Rattle.std.proofs.lemmas.Bool.Decides.{same_from_decides}
use Rattle.std.proofs.lemmas.Slice.Eq.{bytes_eq-Decides}

equal_case : (a b : List ℕ) (o : Ordering) → slice_cmp nat_cmp a b ≡ o → is_eq o ≡ true → b ≡ a
equal_case a b Less is equal = absurd cc
equal_case a b Equal is equal = sym (slice_cmp-IsAntisymmetric nat_cmp-IsAntisymmetric a b is)
equal_case a b Greater is equal = absurd cc

eq_decides : (a b : List ℕ) → Decides (eq_by_cmp (slice_cmp nat_cmp) a b) (b ≡ a)
eq_decides a b = (
  equal_case a b (slice_cmp nat_cmp a b) refl,
  λ is. subst (λ (x : List ℕ). eq_by_cmp (slice_cmp nat_cmp) a x ≡ true) (sym is)
      ((eq_by_cmp_equiv nat_list_cmp_total).refl a),
)

pub tied : (a b : List ℕ) → eq_by_cmp (slice_cmp nat_cmp) a b ≡ bytes_eq b a
tied a b = same_from_decides (eq_by_cmp (slice_cmp nat_cmp) a b) (bytes_eq b a) (eq_decides a b)
    (bytes_eq-Decides b a)
