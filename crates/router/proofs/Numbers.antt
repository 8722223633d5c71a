-- Numbers of which no two are one, each below a bound, and as many as that: each number below it is
-- among them.
use Rattle.std.proofs.Common.{◌≡◌, ◌≢◌, ℕ, zero, suc, ◌+◌, ◌<◌, ◌≤◌, ◌==◌, Bool, true, false, List}
use Rattle.std.proofs.Common.{[], ◌∷◌, length, Some, slice_get, refl, arith, ap, sym, ◌∙◌}
use Rattle.std.specs.Prelude.{All, nat_lt, ◌⊎◌}
use mathlib.Core.Logic.{inl, inr}
use Rattle.std.proofs.lemmas.Bool.Decides.{nat_tests}
use Rattle.std.proofs.lemmas.List.Elements.{All-cons, All-head, All-tail, All-nil}
use Rattle.one_history.specs.Order.{Distinct}

abbrev one_if : Bool → ℕ
one_if true = 1
one_if false = 0

-- how often a number is there
abbrev times : ℕ → List ℕ → ℕ
times k [] = 0
times k (n ∷ ns) = one_if (n == k) + times k ns

-- how many are below a bound
abbrev below : ℕ → List ℕ → ℕ
below zero ns = 0
below (suc m) ns = below m ns + times m ns

differ : (a b : ℕ) → (a == b) ≡ false → a ≡ b → ⊥
differ a b is e = let t : (a == b) ≡ true = grind (arith, nat_tests) in
    absurd (let f : true ≡ false = sym t ∙ is in cc)

unequal : (a b : ℕ) → (a ≡ b → ⊥) → (a == b) ≡ false
unequal a b other = unequal_case (a == b) refl where
  unequal_case : (t : Bool) → (a == b) ≡ t → t ≡ false
  unequal_case true is = absurd (other (let e : a ≡ b = grind (arith, nat_tests) in e))
  unequal_case false is = refl

lt_true : (n m : ℕ) → n < m → nat_lt n m ≡ true
lt_true n m lt = grind (arith, nat_tests)

lt_false : (n m : ℕ) → m ≤ n → nat_lt n m ≡ false
lt_false n m le = grind (arith, nat_tests)

lt_next : (n m : ℕ) → one_if (nat_lt n (suc m)) ≡ one_if (nat_lt n m) + one_if (n == m)
lt_next n m = lt_case (nat_lt n m) (n == m) refl refl where
  lt_case : (s t : Bool) → nat_lt n m ≡ s → (n == m) ≡ t
      → one_if (nat_lt n (suc m)) ≡ one_if s + one_if t
  lt_case true true a b = absurd (let lt : n < m = grind (arith, nat_tests) in
      let e : n ≡ m = grind (arith, nat_tests) in omega (arith, lt, e))
  lt_case true false a b = let lt : n < m = grind (arith, nat_tests) in
      ap one_if (lt_true n (suc m) (omega (arith, lt)))
  lt_case false true a b = let e : n ≡ m = grind (arith, nat_tests) in
      ap one_if (lt_true n (suc m) (omega (arith, e)))
  lt_case false false a b = let le : m ≤ n = grind (arith, nat_tests) in
      let ne : n ≢ m = differ n m b in ap one_if
      (lt_false n (suc m) (let h : (n == m) ≡ false = b in grind (arith, nat_tests)))

below_none : (m : ℕ) → below m [] ≡ 0
below_none zero = refl
below_none (suc m) = omega (arith, below_none m)

below_next : (m n : ℕ) (ns : List ℕ) → below m (n ∷ ns) ≡ one_if (nat_lt n m) + below m ns
below_next zero n ns = let e = ap one_if (lt_false n zero (omega arith)) in omega (arith, e)
below_next (suc m) n ns = omega (arith, below_next m n ns, lt_next n m)

all_below : (m : ℕ) (ns : List ℕ) → All (λ n. n < m) ns → below m ns ≡ length ns
all_below m [] all = below_none m
all_below m (n ∷ ns) all =
    let here = ap one_if (lt_true n m (All-head (λ (k : ℕ). k < m) n ns all)) in
    omega (arith, below_next m n ns, here, all_below m ns (All-tail (λ (k : ℕ). k < m) n ns all))

times_none : (k : ℕ) (ns : List ℕ) → All (λ n. n ≢ k) ns → times k ns ≡ 0
times_none k [] all = refl
times_none k (n ∷ ns) all =
    let here = ap one_if (unequal n k (All-head (λ (m : ℕ). m ≢ k) n ns all)) in
    omega (arith, here, times_none k ns (All-tail (λ (m : ℕ). m ≢ k) n ns all))

times_once : (k : ℕ) (ns : List ℕ) → Distinct ns → times k ns ≤ 1
times_once k [] d = omega arith
times_once k (n ∷ ns) d = once_case (n == k) refl (times_once k ns d.1) where
  once_case : (t : Bool) → (n == k) ≡ t → times k ns ≤ 1 → one_if (n == k) + times k ns ≤ 1
  once_case true is rest =
      let e : n ≡ k = grind (arith, nat_tests) in
      let none = times_none n ns d.0 in
      let same : times k ns ≡ times n ns = ap (λ (j : ℕ). times j ns) (sym e) in
      omega (arith, ap one_if is, none, same)
  once_case false is rest = omega (arith, ap one_if is, rest)

few_below : (m : ℕ) (ns : List ℕ) → Distinct ns → below m ns ≤ m
few_below zero ns d = omega arith
few_below (suc m) ns d = omega (arith, few_below m ns d, times_once m ns d)

pub no_more : (m : ℕ) (ns : List ℕ) → Distinct ns → All (λ n. n < m) ns → length ns ≤ m
no_more m ns d all = omega (arith, few_below m ns d, all_below m ns all)

-- a number is among some, or is none of them
abbrev IsThere : ℕ → List ℕ → Type 0
IsThere k ns = (i : ℕ) × (slice_get ns i ≡ Some k)

found : (k : ℕ) (ns : List ℕ) → IsThere k ns ⊎ All (λ n. n ≢ k) ns
found k [] = inr (All-nil (λ (n : ℕ). n ≢ k))
found k (n ∷ ns) = found_case (n == k) refl (found k ns) where
  found_case : (t : Bool) → (n == k) ≡ t → IsThere k ns ⊎ All (λ m. m ≢ k) ns
      → IsThere k (n ∷ ns) ⊎ All (λ m. m ≢ k) (n ∷ ns)
  found_case true is rest = let e : n ≡ k = grind (arith, nat_tests) in inl (0, ap Some e)
  found_case false is (inl there) = inl (suc there.0, there.1)
  found_case false is (inr none) = inr (All-cons (λ (m : ℕ). m ≢ k) n ns (differ n k is) none)

pub all_there : (m : ℕ) (ns : List ℕ) → Distinct ns → All (λ n. n < m) ns → m ≤ length ns → (k : ℕ)
    → k < m → (i : ℕ) × (slice_get ns i ≡ Some k)
all_there m ns d all many k lt = there_case (found k ns) where
  there_case : IsThere k ns ⊎ All (λ n. n ≢ k) ns → (i : ℕ) × (slice_get ns i ≡ Some k)
  there_case (inl there) = there
  there_case (inr none) =
      let both : Distinct (k ∷ ns) = (none, d) in
      absurd (omega (
        arith,
        many,
        no_more m (k ∷ ns) both
            (All-cons (λ (n : ℕ). n < m) k ns lt all),
      ))
