-- Pairs and loads where all weights are equal.
use Rattle.std.proofs.Common.{◌≡◌, ℕ, zero, suc, ◌+◌, ◌-◌, ◌*◌, ◌/◌, ◌^◌, ◌<◌, ◌≤◌, List, [], ◌∷◌}
use Rattle.std.proofs.Common.{length, get_or, refl, sym, ap, ◌∙◌, arith, inl, inr}
use Rattle.std.specs.Prelude.{sum, remove, All}
use Rattle.std.proofs.lemmas.Bool.{cases_lt}
use Rattle.std.proofs.lemmas.List.Elements.{All-head, All-tail}
use Rattle.std.proofs.Math.Nat.{div-eq_of_lt, div-eq-sub-div, div-div-eq-div-mul, mul-div-mul_right}
use Rattle.std.proofs.Math.Nat.{mul_assoc, mul-pos}
use Rattle.addr_book.specs.declared.addr.Weighted.{Weighted}
use Rattle.choose_core.specs.Pair.{weights_of, place_over, scaled, place_in_whole, first_place}
use Rattle.choose_core.specs.Pair.{second_place}
use Rattle.choose_core.specs.Laws.{EqualWeightsArePlain}
use Rattle.choose_core.proofs.Drawing.{sum-cons, here_over, later_over, scaled_below, first_within}
use Rattle.choose_core.proofs.Drawing.{length-removed, rest_of_sum, weights_more}

abbrev AllAre : ℕ → List ℕ → Type 0
AllAre w [] = Unit {0}
AllAre w (v ∷ vs) = (v ≡ w) × AllAre w vs

sum_equal : (w : ℕ) (ws : List ℕ) → AllAre w ws → sum ws ≡ length ws * w
sum_equal w [] h = omega arith
sum_equal w (v ∷ ws) h = omega (arith, sum-cons v ws, sum_equal w ws h.1, h.0)

get_equal : (w : ℕ) (ws : List ℕ) (i : ℕ) → AllAre w ws → i < length ws → get_or ws i 0 ≡ w
get_equal w [] i h lt = absurd (omega arith)
get_equal w (v ∷ ws) zero h lt = h.0
get_equal w (v ∷ ws) (suc i) h lt = get_equal w ws i h.1 (omega arith)

removed_equal : (w : ℕ) (ws : List ℕ) (i : ℕ) → AllAre w ws → AllAre w (remove ws i)
removed_equal w [] zero h = tt
removed_equal w [] (suc i) h = tt
removed_equal w (v ∷ ws) zero h = h.1
removed_equal w (v ∷ ws) (suc i) h = (h.0, removed_equal w ws i h.1)

-- a place is a whole number of weights
place_equal : (w : ℕ) (ws : List ℕ) (t : ℕ) → 0 < w → AllAre w ws → t < length ws * w
    → place_over ws t ≡ t / w
place_equal w [] t some h lt = absurd (omega arith)
place_equal w (v ∷ ws) t some h lt = elim (cases_lt t v) [
  | inl below ↦ here_over v ws t below ∙ sym (div-eq_of_lt (omega (arith, h.0)))
  | inr from ↦
      let at_least : w ≤ t = omega (arith, h.0) in
      let left : t - w < length ws * w = omega arith in
      later_over v ws t from
      ∙ (ap (λ q. place_over ws (t - q) + 1) h.0
      ∙ (ap (λ n. n + 1) (place_equal w ws (t - w) some h.1 left)
      ∙ sym (div-eq-sub-div some at_least)))
]

scaled_equal : (word n w : ℕ) → 0 < w → scaled word (n * w) / w ≡ word * n / 2 ^ 64
scaled_equal word n w some =
    div-div-eq-div-mul (word * (n * w)) (2 ^ 64) w
    ∙ (ap (λ x. x / (2 ^ 64 * w)) (sym (mul_assoc word n w))
    ∙ mul-div-mul_right (word * n) (2 ^ 64) some)

drawn_equal : (word w : ℕ) (ws : List ℕ) → word < 2 ^ 64 → 0 < w → 0 < length ws → AllAre w ws
    → place_over ws (scaled word (length ws * w)) ≡ word * length ws / 2 ^ 64
drawn_equal word w ws fits some more h =
    let total : 0 < length ws * w = mul-pos more some in
    place_equal w ws _ some h (scaled_below word (length ws * w) fits total)
    ∙ scaled_equal word (length ws) w some

weights_equal : (w : ℕ) (list : List Weighted) → All (λ item. item.weight ≡ w) list
    → AllAre w (weights_of list)
weights_equal w [] h = tt
weights_equal w (item ∷ list) h = (
  All-head (λ item. item.weight ≡ w) item list h,
  weights_equal w list (All-tail (λ item. item.weight ≡ w) item list h),
)

both : (a b c d : ℕ) → a ≡ b → c ≡ d → ◌≡◌ {A = ℕ × ℕ} (a, c) (b, d)
both a b c d p q = λ i. (p i, q i)

first_equal : (w w1 : ℕ) (ws : List ℕ) → w1 < 2 ^ 64 → 0 < w → 0 < length ws → AllAre w ws
    → first_place ws w1 ≡ w1 * length ws / 2 ^ 64
first_equal w w1 ws fits some more h = ap (λ s. place_over ws (scaled w1 s)) (sum_equal w ws h)
    ∙ drawn_equal w1 w ws fits some more h

other_equal : (w w2 i : ℕ) (ws : List ℕ) → w2 < 2 ^ 64 → 0 < w → i < length ws → 1 < length ws
    → AllAre w ws
    → place_over (remove ws i) (scaled w2 (sum ws - get_or ws i 0)) ≡ w2 * (length ws - 1) / 2 ^ 64
other_equal w w2 i ws fits some lt more h =
    let rest = remove ws i in
    let fewer : length rest ≡ length ws - 1 = omega (arith, length-removed ws i lt) in
    let sums : sum ws - get_or ws i 0 ≡ length rest * w =
    sym (rest_of_sum ws i lt) ∙ sum_equal w rest (removed_equal w ws i h) in
    ap (λ s. place_over rest (scaled w2 s)) sums
    ∙ (drawn_equal w2 w rest fits some (omega arith) (removed_equal w ws i h)
    ∙ ap (λ n. w2 * n / 2 ^ 64) fewer)

second_equal : (w w2 i : ℕ) (ws : List ℕ) → w2 < 2 ^ 64 → 0 < w → i < length ws → 1 < length ws
    → AllAre w ws
    → second_place ws i w2 ≡ place_in_whole i (w2 * (length ws - 1) / 2 ^ 64)
second_equal w w2 i ws fits some lt more h =
    ap (place_in_whole i) (other_equal w w2 i ws fits some lt more h)

pub equal_pairs : EqualWeightsArePlain
equal_pairs [] weight w1 w2 some h first second = refl
equal_pairs (item ∷ []) weight w1 w2 some h first second = refl
equal_pairs (item ∷ next ∷ rest) weight w1 w2 some h first second =
    let list = item ∷ next ∷ rest in
    let ws = weights_of list in
    let are : AllAre weight ws = weights_equal weight list h in
    let count : length ws ≡ suc (suc (length rest)) = weights_more list in
    let total : 0 < sum ws = rw (sum_equal weight ws are) (mul-pos (omega (arith, count)) some) in
    let i_is : first_place ws w1 ≡ w1 * suc (suc (length rest)) / 2 ^ 64 =
    first_equal weight w1 ws first some (omega (arith, count)) are
    ∙ ap (λ n. w1 * n / 2 ^ 64) count in
    let j_is : second_place ws (first_place ws w1) w2
    ≡ place_in_whole (first_place ws w1) (w2 * suc (length rest) / 2 ^ 64) =
    second_equal weight w2 (first_place ws w1) ws second some (first_within ws w1 first total)
    (omega (arith, count)) are
    ∙ ap (λ n. place_in_whole (first_place ws w1) (w2 * n / 2 ^ 64)) (omega (arith, count)) in
    both _ _ _ _ i_is (j_is ∙ ap (λ i. place_in_whole i (w2 * suc (length rest) / 2 ^ 64)) i_is)
