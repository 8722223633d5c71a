-- One decimal more is written.
use Rattle.std.proofs.Common.{◌≡◌, ℕ, zero, suc, ◌+◌, ◌-◌, ◌/◌, ◌%◌, ◌^◌, ◌<◌, arith, false, cond}
use Rattle.std.proofs.Common.{List, [], ◌∷◌, ◌++◌, get_or, ap, ◌∙◌, append_assoc}
use Rattle.std.specs.Prelude.{◌==◌}
use Rattle.std.proofs.lemmas.Bool.{ne_eqb}
use Rattle.name_tree.specs.Growth.{Grows}
use Rattle.name_tree.specs.Canon.{decimals_text}

abbrev pub units : List ℕ
units = 100000 ∷ 10000 ∷ 1000 ∷ 100 ∷ 10 ∷ 1 ∷ []

one : (out grown target xs : List ℕ) (d rest : ℕ) → (rest ≡ 0 → ⊥) → grown ≡ out ++ d ∷ []
    → out ++ cond (rest == 0) [] (d ∷ xs) ≡ target → grown ++ xs ≡ target
one out grown target xs d rest some g h =
    let test : (rest == 0) ≡ false = ne_eqb rest 0 some in
    let k : out ++ d ∷ xs ≡ target = rw test at h in rw g (append_assoc out (d ∷ []) xs ∙ k)

pub decimal_more : (i rest : ℕ) (out grown target : List ℕ) → i < 6 → (rest ≡ 0 → ⊥)
    → rest < 10 ^ (6 - i) → grown ≡ out ++ (48 + rest / get_or units i 0) ∷ []
    → out ++ decimals_text (6 - i) rest ≡ target
    → (grown ++ decimals_text (6 - (i + 1)) (rest % get_or units i 0) ≡ target)
    × (rest % get_or units i 0 < 10 ^ (6 - (i + 1)))
decimal_more zero rest out grown target less some below g h = (
  one out grown target (decimals_text 5 (rest % 100000)) (48 + rest / 100000) rest some g h,
  omega arith,
)
decimal_more (suc zero) rest out grown target less some below g h = (
  one out grown target (decimals_text 4 (rest % 10000)) (48 + rest / 10000) rest some g h,
  omega arith,
)
decimal_more (suc (suc zero)) rest out grown target less some below g h = (
  one out grown target (decimals_text 3 (rest % 1000)) (48 + rest / 1000) rest some g h,
  omega arith,
)
decimal_more (suc (suc (suc zero))) rest out grown target less some below g h = (
  one out grown target (decimals_text 2 (rest % 100)) (48 + rest / 100) rest some g h,
  omega arith,
)
decimal_more (suc (suc (suc (suc zero)))) rest out grown target less some below g h =
    (one out grown target (decimals_text 1 (rest % 10)) (48 + rest / 10) rest some g h, omega arith)
decimal_more (suc (suc (suc (suc (suc zero))))) rest out grown target less some below g h =
    (one out grown target (decimals_text 0 (rest % 1)) (48 + rest / 1) rest some g h, omega arith)
decimal_more (suc (suc (suc (suc (suc (suc k)))))) rest out grown target less some below g h =
    absurd (omega arith)

pub grows_more : (old new grown more : List ℕ) → Grows old new → grown ≡ new ++ more
    → Grows old grown
grows_more old new grown more g e =
    (g.0 ++ more, e ∙ (ap (λ x. x ++ more) g.1 ∙ append_assoc old g.0 more))
