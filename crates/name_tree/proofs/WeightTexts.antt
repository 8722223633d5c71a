-- The weights that are computed from texts are those that the grammar spells.
use Rattle.std.proofs.Common.{◌≡◌, ℕ, suc, ◌+◌, ◌-◌, ◌*◌, ◌/◌, ◌≤◌, List, [], ◌∷◌, ◌++◌, length}
use Rattle.std.proofs.Common.{Bool, true, false, Some, None, refl, sym, ap, ◌∙◌, subst, arith}
use Rattle.std.proofs.Common.{append_assoc}
use Rattle.std.specs.Prelude.{nat_lt, ◌==◌, if◌then◌else◌}
use Rattle.std.proofs.lemmas.Bool.{lt-ltb}
use Rattle.std.proofs.lemmas.Bool.Decides.{nat_tests}
use Rattle.std.proofs.lemmas.Option.{same_Some}
use Rattle.name_tree.specs.Value.{one_whole}
use Rattle.name_tree.specs.Grammar.{number, fraction, is_digit, AreDigits, no_digit, digit}
use Rattle.name_tree.specs.Grammar.{SpellsWeight, whole, decimal}
use Rattle.name_tree.specs.Weight.{decimals_from, point_from, whole_from, weight_of}
use Rattle.name_tree.specs.Weight.{ComputesWeights}

digit_no_point : (b : ℕ) → is_digit b ≡ true → (b == 46) ≡ false
digit_no_point b h = grind (arith, nat_tests)

point_is : (b : ℕ) → (b == 46) ≡ true → b ≡ 46
point_is b h = grind (arith, nat_tests)

-- ---- what is computed is spelled

decimals_gives : (n unit : ℕ) (s : List ℕ) (v : ℕ) → decimals_from n unit s ≡ Some v
    → AreDigits s × (v ≡ n + fraction unit s)
decimals_gives n unit [] v e = (no_digit, let k = same_Some n v e in omega arith)
decimals_gives n unit (d ∷ ds) v e =
    go (is_digit d) refl e (decimals_gives (n + (d - 48) * unit) (unit / 10) ds v)
  where
    go : (t : Bool) → is_digit d ≡ t
        → (if t then decimals_from (n + (d - 48) * unit) (unit / 10) ds else None) ≡ Some v
        → (decimals_from (n + (d - 48) * unit) (unit / 10) ds ≡ Some v
        → AreDigits ds × (v ≡ (n + (d - 48) * unit) + fraction (unit / 10) ds))
        → AreDigits (d ∷ ds) × (v ≡ n + fraction unit (d ∷ ds))
    go true h k more = let rest = more k in (digit h rest.0, omega (arith, rest.1))
    go false h k more = cc

point_gives : (n : ℕ) (s : List ℕ) (v : ℕ) → point_from n s ≡ Some v
    → AreDigits s × (1 ≤ length s) × (v ≡ n + fraction 100000 s)
point_gives n [] v e = cc
point_gives n (d ∷ ds) v e = go (is_digit d) refl e
  where
    go : (t : Bool) → is_digit d ≡ t
        → (if t then decimals_from (n + (d - 48) * 100000) 10000 ds else None) ≡ Some v
        → AreDigits (d ∷ ds) × (1 ≤ length (d ∷ ds)) × (v ≡ n + fraction 100000 (d ∷ ds))
    go true h k =
        let rest = decimals_gives (n + (d - 48) * 100000) 10000 ds v k in
        (digit h rest.0, omega arith, omega (arith, rest.1))
    go false h k = cc

-- what is left of a weight behind so many digits, which stand for the number
data Rest : ℕ → ℕ → List ℕ → ℕ → Type 0 where
  digits : {n k v : ℕ} {ds : List ℕ} → AreDigits ds → 1 ≤ k + length ds → k + length ds ≤ 6
      → v ≡ number n ds * one_whole → Rest n k ds v
  decimals : {n k v : ℕ} {ds es : List ℕ} → AreDigits ds → k + length ds ≤ 6 → AreDigits es
      → 1 ≤ length es → v ≡ number n ds * one_whole + fraction 100000 es
      → Rest n k (ds ++ 46 ∷ es) v

one_more : {n k v b : ℕ} {s : List ℕ} → is_digit b ≡ true → Rest (10 * n + (b - 48)) (k + 1) s v
    → Rest n k (b ∷ s) v
one_more h (digits r some few e) = digits (digit h r) (omega arith) (omega arith) e
one_more h (decimals r few q some e) = decimals (digit h r) (omega arith) q some e

whole_gives : (n k : ℕ) (s : List ℕ) (v : ℕ) → k ≤ 6 → whole_from n k s ≡ Some v → Rest n k s v
whole_gives n k [] v le e = go (k == 0) refl e
  where
    go : (t : Bool) → (k == 0) ≡ t → (if t then None else Some (n * one_whole)) ≡ Some v
        → Rest n k [] v
    go true h f = cc
    go false h f =
        let some : 1 ≤ k = grind (arith, nat_tests) in
        digits no_digit (omega arith) (omega arith) (sym (same_Some (n * one_whole) v f))
whole_gives n k (b ∷ bs) v le e = go (b == 46) refl e
    (λ few. whole_gives (10 * n + (b - 48)) (k + 1) bs v few)
  where
    at_digit : (t : Bool) → is_digit b ≡ t
        → (if t then (if nat_lt k 6 then whole_from (10 * n + (b - 48)) (k + 1) bs else None) else
        None) ≡ Some v
        → (k + 1 ≤ 6 → whole_from (10 * n + (b - 48)) (k + 1) bs ≡ Some v
        → Rest (10 * n + (b - 48)) (k + 1) bs v) → Rest n k (b ∷ bs) v
    at_digit false h f more = cc
    at_digit true h f more = room (nat_lt k 6) refl f
      where
        room : (t : Bool) → nat_lt k 6 ≡ t
            → (if t then whole_from (10 * n + (b - 48)) (k + 1) bs else None) ≡ Some v
            → Rest n k (b ∷ bs) v
        room true lt g = let few : k + 1 ≤ 6 = grind (arith, nat_tests) in one_more h (more few g)
        room false lt g = cc

    go : (t : Bool) → (b == 46) ≡ t
        → (if t then point_from (n * one_whole) bs else
        (if is_digit b then (if nat_lt k 6 then whole_from (10 * n + (b - 48))
        (k + 1) bs else None) else None)) ≡ Some v
        → (k + 1 ≤ 6 → whole_from (10 * n + (b - 48)) (k + 1) bs ≡ Some v
        → Rest (10 * n + (b - 48)) (k + 1) bs v) → Rest n k (b ∷ bs) v
    go true h f more =
        let rest = point_gives (n * one_whole) bs v f in
        subst (λ x. Rest n k (x ∷ bs) v) (sym (point_is b h))
        (decimals no_digit (omega arith) rest.0 rest.1 rest.2)
    go false h f more = at_digit (is_digit b) refl f more

spells : {s : List ℕ} {v : ℕ} → Rest 0 0 s v → SpellsWeight s v
spells {s} (digits r some few e) = subst (SpellsWeight s) (sym e)
    (whole r (omega arith) (omega arith))
spells {s} {v} (decimals {ds = ds} {es = es} r few q some e) =
    subst (λ (t : List ℕ). SpellsWeight t v) (append_assoc ds (46 ∷ []) es)
    (subst (SpellsWeight ((ds ++ 46 ∷ []) ++ es)) (sym e) (decimal r (omega arith) q some))

-- ---- what is spelled is computed

decimals_read : {ds : List ℕ} → AreDigits ds → (n unit : ℕ)
    → decimals_from n unit ds ≡ Some (n + fraction unit ds)
decimals_read no_digit n unit = ap Some (omega arith)
decimals_read (digit {b = d} {s = ds} h r) n unit =
    rw h (decimals_read r (n + (d - 48) * unit) (unit / 10) ∙ ap Some (omega arith))

point_read : {ds : List ℕ} → AreDigits ds → 1 ≤ length ds → (n : ℕ)
    → point_from n ds ≡ Some (n + fraction 100000 ds)
point_read no_digit some n = absurd (omega arith)
point_read (digit {b = d} {s = ds} h r) some n =
    rw h (decimals_read r (n + (d - 48) * 100000) 10000 ∙ ap Some (omega arith))

whole_read : {ds : List ℕ} → AreDigits ds → (n k : ℕ) → k + length ds ≤ 6 → (more : List ℕ)
    → whole_from n k (ds ++ more) ≡ whole_from (number n ds) (k + length ds) more
whole_read no_digit n k few more = let e : k + 0 ≡ k = omega arith in
    ap (λ i. whole_from n i more) (sym e)
whole_read (digit {b = d} {s = ds} h r) n k few more =
    let room : nat_lt k 6 ≡ true = lt-ltb k 6 (omega arith) in
    let e : (k + 1) + length ds ≡ k + suc (length ds) = omega arith in
    rw (digit_no_point d h, h, room) (whole_read r (10 * n + (d - 48)) (k + 1) (omega arith) more
    ∙ ap (λ i. whole_from (number (10 * n + (d - 48)) ds) i more) e)

ends : (n k : ℕ) → 1 ≤ k → whole_from n k [] ≡ Some (n * one_whole)
ends n k some = let e : (k == 0) ≡ false = grind (arith, nat_tests) in rw e refl

append_none : (s : List ℕ) → s ++ [] ≡ s
append_none [] = refl
append_none (b ∷ bs) = ap (λ x. b ∷ x) (append_none bs)

weight_read : {s : List ℕ} {n : ℕ} → SpellsWeight s n → weight_of s ≡ Some n
weight_read (whole {ds = ds} r some few) =
    ap (whole_from 0 0) (sym (append_none ds))
    ∙ (whole_read r 0 0 (omega arith) [] ∙ ends (number 0 ds) (0 + length ds) (omega arith))
weight_read (decimal {ds = ds} {es = es} r few q some) =
    ap (whole_from 0 0) (append_assoc ds (46 ∷ []) es)
    ∙ (whole_read r 0 0 (omega arith) (46 ∷ es) ∙ point_read q some (number 0 ds * one_whole))

pub computes_weights : ComputesWeights
computes_weights text n = (λ e. spells (whole_gives 0 0 text n (omega arith) e), weight_read)
