-- Trees of different kinds say different things.
use Rattle.std.proofs.Common.{◌≡◌, ℕ, nat_eq, true, false, refl, sym, ap, ◌∙◌, arith}
use Rattle.std.specs.Prelude.{◌↔◌, IsTrue}
use Rattle.std.proofs.lemmas.Bool.Decides.{nat_tests}
use Rattle.name_tree.specs.Value.{TreeValue, leaf, neg, fail, empty, alt, union}

abbrev kind : TreeValue → ℕ
kind (leaf ls) = 0
kind neg = 1
kind fail = 2
kind empty = 3
kind (alt ts) = 4
kind (union bs) = 5

not_equal : (m n : ℕ) → nat_eq m n ≡ false → m ≡ n → ⊥
not_equal m n differ same = grind (arith, nat_tests)

-- two trees of different kinds are not the same
pub apart : (v w x y : TreeValue) → x ≡ v → y ≡ w → nat_eq (kind v) (kind w) ≡ false
    → IsTrue false ↔ (x ≡ y)
apart v w x y is are differ = (
  λ no. absurd (cc),
  λ same.
      absurd (not_equal (kind v) (kind w) differ (ap kind (sym is ∙ (same ∙ are)))),
)

-- a tree is itself
pub alike : (v x : TreeValue) → x ≡ v → IsTrue true ↔ (v ≡ x)
alike v x is = (λ _. sym is, λ _. refl)
