-- Places by cumulative weight, and the pair that is drawn.
use Rattle.std.proofs.Common.{◌≡◌, ℕ, zero, suc, ◌+◌, ◌-◌, ◌*◌, ◌^◌, ◌<◌, ◌≤◌, ◌≢◌, List, [], ◌∷◌}
use Rattle.std.proofs.Common.{length, get_or, drop, Bool, true, false, cond, refl, sym, ap, subst}
use Rattle.std.proofs.Common.{◌∙◌, arith, inl, inr, lit<}
use Rattle.std.specs.Prelude.{sum, remove, filter, nat_lt, nat_le, slice_get, Some}
use Rattle.std.proofs.lemmas.Bool.{cases_lt, le-leb, lt-leb, lt-ltb, le-ltb}
use Rattle.std.proofs.lemmas.Bool.Decides.{nat_tests}
use Rattle.std.proofs.lemmas.List.Sums.{sum_by-cons, sum_by-remove}
use Rattle.std.proofs.lemmas.List.Elements.{All-head, All-tail, All-cons}
use Rattle.std.proofs.lemmas.List.{drop_all}
use Rattle.std.proofs.lemmas.Nat.{div_below}
use Rattle.std.proofs.Math.Nat.{mul-lt-mul_of_pos_left, mul_comm}
use Rattle.addr_book.specs.declared.addr.Weighted.{Weighted}
use Rattle.addr_book.specs.AddrList.{IsWeight, HaveWeights}
use Rattle.choose_core.proofs.Passing.{read_passes, read_stays}
use Rattle.choose_core.specs.Pair.{weights_of, place_over, scaled, place_in_whole, first_place}
use Rattle.choose_core.specs.Pair.{second_place, pair_of, IsPair}

pub sum-cons : (w : ℕ) (ws : List ℕ) → sum (w ∷ ws) ≡ w + sum ws
sum-cons w ws = sum_by-cons (λ x. x) w ws

-- ---- the steps of a search
pub here_over : (w : ℕ) (ws : List ℕ) (n : ℕ) → n < w → place_over (w ∷ ws) n ≡ 0
here_over w ws n lt = grind (arith, nat_tests)

pub later_over : (w : ℕ) (ws : List ℕ) (n : ℕ) → w ≤ n
    → place_over (w ∷ ws) n ≡ place_over ws (n - w) + 1
later_over w ws n le = grind (arith, nat_tests)

pub place_within : (ws : List ℕ) (n : ℕ) → n < sum ws → place_over ws n < length ws
place_within [] n lt = absurd (omega arith)
place_within (w ∷ ws) n lt = elim (cases_lt n w) [
  | inl below ↦ omega (arith, here_over w ws n below)
  | inr from ↦ let rest = place_within ws (n - w) (omega (arith, sum-cons w ws, lt)) in
      omega (arith, later_over w ws n from, rest)
]

-- ---- the search that leaves a place out
abbrev pub other_over : List ℕ → ℕ → ℕ → ℕ
other_over [] out n = 0
other_over (w ∷ ws) zero n = place_over ws n + 1
other_over (w ∷ ws) (suc out) n = cond (nat_lt n w) 0 (other_over ws out (n - w) + 1)

whole_more : (out at : ℕ) → place_in_whole (suc out) (at + 1) ≡ place_in_whole out at + 1
whole_more out at = grind (arith, nat_tests)

whole_behind : (at : ℕ) → at + 1 ≡ place_in_whole 0 at
whole_behind at = grind (arith, nat_tests)

pub other-whole : (ws : List ℕ) (out n : ℕ) → out < length ws
    → other_over ws out n ≡ place_in_whole out (place_over (remove ws out) n)
other-whole [] out n lt = absurd (omega arith)
other-whole (w ∷ ws) zero n lt = whole_behind (place_over ws n)
other-whole (w ∷ ws) (suc out) n lt =
    let rest = other-whole ws out (n - w) (omega arith) in
    elim (cases_lt n w) [
      | inl below ↦ grind (arith, nat_tests, here_over w (remove ws out) n below)
      | inr from ↦ grind (
        arith,
        nat_tests,
        later_over w (remove ws out) n from,
        rest,
        whole_more out (place_over (remove ws out) (n - w)),
      )
    ]

-- ---- what a word draws
pub scaled_below : (word total : ℕ) → word < 2 ^ 64 → 0 < total → scaled word total < total
scaled_below word total word_fits some =
    div_below (word * total) (2 ^ 64) total (lit< tt)
    (rw mul_comm (mul-lt-mul_of_pos_left word_fits some))

pub at_most_sum : (ws : List ℕ) (i : ℕ) → get_or ws i 0 ≤ sum ws
at_most_sum [] i = omega arith
at_most_sum (w ∷ ws) zero = omega (arith, sum-cons w ws)
at_most_sum (w ∷ ws) (suc i) = omega (arith, sum-cons w ws, at_most_sum ws i)

pub first_within : (ws : List ℕ) (w1 : ℕ) → w1 < 2 ^ 64 → 0 < sum ws → first_place ws w1 < length ws
first_within ws w1 fits some = place_within ws _ (scaled_below w1 (sum ws) fits some)

pub length-removed : (ws : List ℕ) (i : ℕ) → i < length ws → length (remove ws i) + 1 ≡ length ws
length-removed [] i lt = absurd (omega arith)
length-removed (w ∷ ws) zero lt = omega arith
length-removed (w ∷ ws) (suc i) lt = omega (arith, length-removed ws i (omega arith))

pub rest_of_sum : (ws : List ℕ) (i : ℕ) → i < length ws → sum (remove ws i) ≡ sum ws - get_or ws i 0
rest_of_sum ws i lt = omega (arith, sum_by-remove (λ x. x) ws i 0 lt)

other_within : (ws : List ℕ) (i w2 : ℕ) → i < length ws → w2 < 2 ^ 64 → 0 < sum ws - get_or ws i 0
    → place_over (remove ws i) (scaled w2 (sum ws - get_or ws i 0)) < length (remove ws i)
other_within ws i w2 lt fits some =
    place_within (remove ws i) _
    (subst (λ s. scaled w2 (sum ws - get_or ws i 0) < s) (sym (rest_of_sum ws i lt))
    (scaled_below w2 (sum ws - get_or ws i 0) fits some))

whole_within : (out at n : ℕ) → at + 1 < n → place_in_whole out at < n
whole_within out at n lt = grind (arith, nat_tests)

whole_apart : (out at : ℕ) → out ≢ place_in_whole out at
whole_apart out at = grind (arith, nat_tests)

pub second_within : (ws : List ℕ) (i w2 : ℕ) → i < length ws → w2 < 2 ^ 64
    → 0 < sum ws - get_or ws i 0 → second_place ws i w2 < length ws
second_within ws i w2 lt fits some =
    whole_within i _ (length ws)
    (omega (arith, other_within ws i w2 lt fits some, length-removed ws i lt))

pub second_apart : (ws : List ℕ) (i w2 : ℕ) → i ≢ second_place ws i w2
second_apart ws i w2 = whole_apart i (place_over (remove ws i) (scaled w2 (sum ws - get_or ws i 0)))

-- ---- weights of a list
pub weights_more : (list : List Weighted) → length (weights_of list) ≡ length list
weights_more [] = refl
weights_more (item ∷ list) = omega (arith, weights_more list)

-- weights are more than 0, so the sum is, and is only that of the first where there is one alone
pub some_weight : (item : Weighted) (list : List Weighted) → 1 ≤ item.weight
    → 0 < sum (weights_of (item ∷ list))
some_weight item list one = omega (arith, sum-cons item.weight (weights_of list))

pub alone : (item : Weighted) (w1 : ℕ) → w1 < 2 ^ 64 → 1 ≤ item.weight
    → first_place (weights_of (item ∷ [])) w1 ≡ 0
alone item w1 fits one =
    omega (arith, first_within (weights_of (item ∷ [])) w1 fits (some_weight item [] one))

weights_filter : (p : Weighted → Bool) (list : List Weighted) → HaveWeights list
    → HaveWeights (filter p list)
weights_filter p [] h = h
weights_filter p (x ∷ list) h =
    let rest = weights_filter p list (All-tail (λ item. IsWeight item.weight) x list h) in
    elim (p x) as (λ b. HaveWeights (cond b (x ∷ filter p list) (filter p list))) [
      | true ↦ All-cons (λ item. IsWeight item.weight) x (filter p list)
          (All-head (λ item. IsWeight item.weight) x list h) rest
      | false ↦ rest
    ]

pub passing_weights : (p : Weighted → Bool) (list : List Weighted) → HaveWeights list
    → HaveWeights (filter p list)
passing_weights p list h = weights_filter p list h

-- ---- the loop of the first place
pub record IsDrawing (p : Weighted → Bool) (list : List Weighted)
    (index at left over : ℕ) : Type 0 where
  pub fits : at ≤ index
  pub place : place_over (weights_of (filter p list)) over
      ≡ at + place_over (weights_of (filter p (drop index list))) left
  pub weight : (k : ℕ) → get_or (weights_of (filter p list)) (at + k) 0
      ≡ get_or (weights_of (filter p (drop index list))) k 0

module _ (p : Weighted → Bool) (list : List Weighted) (index at left over : ℕ) (d : Weighted)
    (lt : index < length list) (h : IsDrawing p list index at left over) where
  pub draw_next : p (get_or list index d) ≡ true → (get_or list index d).weight ≤ left
      → IsDrawing p list (index + 1) (at + 1) (left - (get_or list index d).weight) over
  draw_next t le =
      let next = read_passes p list index d lt t in
      let step : place_over (weights_of (filter p (drop index list))) left
      ≡ place_over (weights_of (filter p (drop (index + 1) list)))
      (left - (get_or list index d).weight) + 1 =
      ap (λ xs. place_over (weights_of xs) left) next
      ∙ later_over (get_or list index d).weight (weights_of (filter p (drop (index + 1) list)))
      left le in
      record {
        fits = omega (arith, h.fits);
        place = omega (arith, h.place, step);
        weight = λ k. let e : at + 1 + k ≡ at + suc k = omega arith in
            rw e (h.weight (suc k) ∙ ap (λ xs. get_or (weights_of xs) (suc k) 0) next);
      }

  pub draw_same : p (get_or list index d) ≡ false → IsDrawing p list (index + 1) at left over
  draw_same t =
      let next = read_stays p list index d lt t in
      record {
        fits = omega (arith, h.fits);
        place = h.place ∙ ap (λ xs. at + place_over (weights_of xs) left) next;
        weight = λ k. h.weight k ∙ ap (λ xs. get_or (weights_of xs) k 0) next;
      }

  pub drawn_weight : p (get_or list index d) ≡ true
      → (get_or list index d).weight ≡ get_or (weights_of (filter p list)) at 0
  drawn_weight t =
      let e : at + 0 ≡ at = omega arith in
      sym (ap (λ k. get_or (weights_of (filter p list)) k 0) (sym e)
      ∙ (h.weight 0 ∙ ap (λ xs. get_or (weights_of xs) 0 0) (read_passes p list index d lt t)))

-- ---- the loop of the second place
abbrev pub from_here : List ℕ → ℕ → ℕ → ℕ → ℕ
from_here ws at out left = cond (nat_le at out) (other_over ws (out - at) left) (place_over ws left)

pub record IsDrawingOther (p : Weighted → Bool) (list : List Weighted)
    (index at left out over : ℕ) : Type 0 where
  pub fits : at ≤ index
  pub place : other_over (weights_of (filter p list)) out over
      ≡ at + from_here (weights_of (filter p (drop index list))) at out left

other_pos : (w : ℕ) (ws : List ℕ) (n left : ℕ) → 0 < n
    → other_over (w ∷ ws) n left ≡ cond (nat_lt left w) 0 (other_over ws (n - 1) (left - w) + 1)
other_pos w ws zero left more = absurd (omega arith)
other_pos w ws (suc n) left more = let e : suc n - 1 ≡ n = omega arith in rw e refl

first_way : {X : Type 0} (at out : ℕ) (x y : X) → at ≤ out → cond (nat_le at out) x y ≡ x
first_way at out x y le = ap (λ b. cond b x y) (le-leb at out le)

other_way : {X : Type 0} (at out : ℕ) (x y : X) → out < at → cond (nat_le at out) x y ≡ y
other_way at out x y lt = ap (λ b. cond b x y) (lt-leb at out lt)

pub from_here_below : (w : ℕ) (ws : List ℕ) (at out left : ℕ) → at ≢ out → left < w
    → from_here (w ∷ ws) at out left ≡ 0
from_here_below w ws at out left apart below = elim (cases_lt out at) [
  | inl behind ↦ other_way at out _ _ behind ∙ here_over w ws left below
  | inr before ↦
      let more : 0 < out - at = omega (arith, apart, before) in
      first_way at out _ _ before
      ∙ (other_pos w ws (out - at) left more
      ∙ ap (λ b. cond b 0 (other_over ws (out - at - 1) (left - w) + 1)) (lt-ltb left w below))
]

pub from_here_above : (w : ℕ) (ws : List ℕ) (at out left : ℕ) → at ≢ out → w ≤ left
    → from_here (w ∷ ws) at out left ≡ from_here ws (at + 1) out (left - w) + 1
from_here_above w ws at out left apart above = elim (cases_lt out at) [
  | inl behind ↦
      let later : out < at + 1 = omega (arith, behind) in
      other_way at out _ _ behind
      ∙ (later_over w ws left above ∙ ap (λ n. n + 1)
      (sym (other_way (at + 1) out (other_over ws (out - (at + 1)) (left - w))
      (place_over ws (left - w)) later)))
  | inr before ↦
      let more : 0 < out - at = omega (arith, apart, before) in
      let next : at + 1 ≤ out = omega (arith, apart, before) in
      let fewer : out - at - 1 ≡ out - (at + 1) = omega arith in
      first_way at out _ _ before
      ∙ (other_pos w ws (out - at) left more
      ∙ (ap (λ b. cond b 0 (other_over ws (out - at - 1) (left - w) + 1)) (le-ltb left w above)
      ∙ (ap (λ n. other_over ws n (left - w) + 1) fewer
      ∙ ap (λ n. n + 1) (sym
      (first_way (at + 1) out (other_over ws (out - (at + 1)) (left - w))
      (place_over ws (left - w)) next)))))
]

pub from_here_out : (w : ℕ) (ws : List ℕ) (at out left : ℕ) → at ≡ out
    → from_here (w ∷ ws) at out left ≡ from_here ws (at + 1) out left + 1
from_here_out w ws at out left same =
    let zero_left : out - at ≡ 0 = omega (arith, same) in
    let later : out < at + 1 = omega (arith, same) in
    first_way at out _ _ (omega (arith, same))
    ∙ (ap (λ n. other_over (w ∷ ws) n left) zero_left
    ∙ ap (λ n. n + 1) (sym
    (other_way (at + 1) out (other_over ws (out - (at + 1)) left) (place_over ws left) later)))

pub from_here_end : (at out left : ℕ) → from_here [] at out left ≡ 0
from_here_end at out left =
    elim (nat_le at out) as (λ b. cond b (other_over [] (out - at) left) (place_over [] left) ≡ 0)
    [ true ↦ none_over (out - at) left | false ↦ refl ]
  where
    none_over : (n m : ℕ) → other_over [] n m ≡ 0
    none_over n m = refl

module _ (p : Weighted → Bool) (list : List Weighted) (index at left out over : ℕ) (d : Weighted)
    (lt : index < length list) (h : IsDrawingOther p list index at left out over) where
  at_next : p (get_or list index d) ≡ true
      → from_here (weights_of (filter p (drop index list))) at out left
      ≡ from_here ((get_or list index d).weight ∷ weights_of (filter p (drop (index + 1) list))) at
      out left
  at_next t = ap (λ xs. from_here (weights_of xs) at out left) (read_passes p list index d lt t)

  pub other_next : p (get_or list index d) ≡ true → at ≢ out → (get_or list index d).weight ≤ left
      → IsDrawingOther p list (index + 1) (at + 1) (left - (get_or list index d).weight) out over
  other_next t apart le =
      record {
        fits = omega (arith, h.fits);
        place = omega (
          arith,
          h.place,
          at_next t,
          from_here_above (get_or list index d).weight
              (weights_of (filter p (drop (index + 1) list))) at out left apart le,
        );
      }

  pub other_skip : p (get_or list index d) ≡ true → at ≡ out
      → IsDrawingOther p list (index + 1) (at + 1) left out over
  other_skip t same =
      record {
        fits = omega (arith, h.fits);
        place = omega (
          arith,
          h.place,
          at_next t,
          from_here_out (get_or list index d).weight
              (weights_of (filter p (drop (index + 1) list))) at out left same,
        );
      }

  pub other_same : p (get_or list index d) ≡ false
      → IsDrawingOther p list (index + 1) at left out over
  other_same t = record {
    fits = omega (arith, h.fits);
    place =
        h.place ∙ ap (λ xs. at + from_here (weights_of xs) at out left)
        (read_stays p list index d lt t);
  }

  pub other_here : out < length (filter p list) → p (get_or list index d) ≡ true → at ≢ out
      → left < (get_or list index d).weight
      → at ≡ place_in_whole out (place_over (remove (weights_of (filter p list)) out) over)
  other_here within t apart below =
      let whole = other-whole (weights_of (filter p list)) out over (rw weights_more within) in
      let none = from_here_below (get_or list index d).weight
      (weights_of (filter p (drop (index + 1) list))) at out left apart below in
      let here : other_over (weights_of (filter p list)) out over ≡ at =
      omega (arith, h.place, at_next t, none) in
      sym here ∙ whole

pub other_end : (p : Weighted → Bool) (list : List Weighted) (index at left out over : ℕ)
    → length list ≤ index → out < length (filter p list)
    → IsDrawingOther p list index at left out over
    → at ≡ place_in_whole out (place_over (remove (weights_of (filter p list)) out) over)
other_end p list index at left out over past within h =
    let whole = other-whole (weights_of (filter p list)) out over (rw weights_more within) in
    let none : from_here (weights_of (filter p (drop index list))) at out left ≡ 0 =
    ap (λ xs. from_here (weights_of (filter p xs)) at out left) (drop_all index list past)
    ∙ from_here_end at out left in
    let here : other_over (weights_of (filter p list)) out over ≡ at =
    omega (arith, h.place, none) in
    sym here ∙ whole

-- ---- the pair
below_sum : (w : ℕ) (ws : List ℕ) (i : ℕ) → 1 ≤ w → 0 < sum ws → get_or (w ∷ ws) i 0 < sum (w ∷ ws)
below_sum w ws zero one more = omega (arith, sum-cons w ws)
below_sum w ws (suc i) one more = omega (arith, sum-cons w ws, at_most_sum ws i)

module _ (list : List Weighted) (w1 w2 : ℕ) (first : w1 < 2 ^ 64) (second : w2 < 2 ^ 64)
    (have : HaveWeights list) (more : 0 < length list) where
  pub some_sum : 0 < sum (weights_of list)
  some_sum = summed list have more
    where
      summed : (xs : List Weighted) → HaveWeights xs → 0 < length xs → 0 < sum (weights_of xs)
      summed [] h m = absurd (omega arith)
      summed (item ∷ xs) h m = some_weight item xs (All-head (λ x. IsWeight x.weight) item xs h).0

  pub i_within : first_place (weights_of list) w1 < length list
  i_within = rw (← weights_more list) (first_within (weights_of list) w1 first some_sum)

  -- nothing is left without the first, so it is alone
  pub alone_pair : sum (weights_of list) - get_or (weights_of list)
      (first_place (weights_of list) w1) 0 ≡ 0
      → (pair_of list w1 w2 ≡ (first_place (weights_of list) w1, first_place (weights_of list) w1))
      × (length list ≡ 1)
  alone_pair none = only list have more none
    where
      only : (xs : List Weighted) → HaveWeights xs → 0 < length xs
          → sum (weights_of xs) - get_or (weights_of xs) (first_place (weights_of xs) w1) 0 ≡ 0
          → (pair_of xs w1 w2 ≡ (first_place (weights_of xs) w1, first_place (weights_of xs) w1))
          × (length xs ≡ 1)
      only [] h m e = absurd (omega arith)
      only (item ∷ []) h m e =
          let zero_place = alone item w1 first (All-head (λ x. IsWeight x.weight) item [] h).0 in
          ((λ i. (sym zero_place i, sym zero_place i)), omega arith)
      only (item ∷ next ∷ xs) h m e =
          let one = (All-head (λ x. IsWeight x.weight) item (next ∷ xs) h).0 in
          let rest = All-tail (λ x. IsWeight x.weight) item (next ∷ xs) h in
          let behind = some_weight next xs (All-head (λ x. IsWeight x.weight) next xs rest).0 in
          absurd (omega (
            arith,
            e,
            below_sum item.weight (weights_of (next ∷ xs))
                (first_place (weights_of (item ∷ next ∷ xs)) w1) one behind,
          ))

  pub several_pair : 0 < sum (weights_of list) - get_or (weights_of list)
      (first_place (weights_of list) w1) 0
      → pair_of list w1 w2 ≡ (
        first_place (weights_of list) w1,
        second_place (weights_of list) (first_place (weights_of list) w1) w2,
      )
  several_pair some = both list have more some
    where
      both : (xs : List Weighted) → HaveWeights xs → 0 < length xs
          → 0 < sum (weights_of xs) - get_or (weights_of xs) (first_place (weights_of xs) w1) 0
          → pair_of xs w1 w2 ≡ (
            first_place (weights_of xs) w1,
            second_place (weights_of xs) (first_place (weights_of xs) w1) w2,
          )
      both [] h m e = absurd (omega arith)
      both (item ∷ []) h m e =
          let zero_place = alone item w1 first (All-head (λ x. IsWeight x.weight) item [] h).0 in
          let whole : get_or (weights_of (item ∷ [])) (first_place (weights_of (item ∷ [])) w1) 0
          ≡ item.weight = ap (λ i. get_or (weights_of (item ∷ [])) i 0) zero_place in
          absurd (omega (arith, e, whole, sum-cons item.weight []))
      both (item ∷ next ∷ xs) h m e = refl

  pub j_within : 0 < sum (weights_of list) - get_or (weights_of list)
      (first_place (weights_of list) w1) 0
      → second_place (weights_of list) (first_place (weights_of list) w1) w2 < length list
  j_within some = rw (← weights_more list)
      (second_within (weights_of list) (first_place (weights_of list) w1) w2
      (rw weights_more i_within) second some)

module _ (list : List Weighted) (w1 w2 at : ℕ) (first : w1 < 2 ^ 64) (second : w2 < 2 ^ 64)
    (have : HaveWeights list) (more : 0 < length list)
    (at_is : at ≡ first_place (weights_of list) w1) where
  pub at_within : at < length list
  at_within = rw at_is (i_within list w1 w2 first second have more)

  pub paired_alone : sum (weights_of list) - get_or (weights_of list)
      (first_place (weights_of list) w1) 0 ≡ 0 → IsPair w1 w2 (at, at) list
  paired_alone none =
      let only = alone_pair list w1 w2 first second have more none in
      record {
        pair = (λ i. (at_is i, at_is i)) ∙ sym only.0;
        first = at_within;
        second =
            at_within;
        apart = λ two. absurd (omega (arith, only.1));
      }

  pub paired_several : (other : ℕ) → other
      ≡ second_place (weights_of list) (first_place (weights_of list) w1) w2
      → 0 < sum (weights_of list) - get_or (weights_of list) (first_place (weights_of list) w1) 0
      → IsPair w1 w2 (at, other) list
  paired_several other other_is some =
      record {
        pair = (λ i. (at_is i, other_is i))
            ∙ sym (several_pair list w1 w2 first second have more some);
        first = at_within;
        second = rw other_is (j_within list w1 w2 first second have more some);
        apart = λ two. rw (at_is, other_is)
            (second_apart (weights_of list) (first_place (weights_of list) w1) w2);
      }

-- the addresses at the places of a pair
pub drawn_at : (list : List Weighted) (w1 w2 : ℕ) (places : ℕ × ℕ) → IsPair w1 w2 places list
    → (x y : Weighted) → slice_get list places.0 ≡ Some x → slice_get list places.1 ≡ Some y
    → (slice_get list (pair_of list w1 w2).0 ≡ Some x)
    × (slice_get list (pair_of list w1 w2).1 ≡ Some y)
drawn_at list w1 w2 places is x y first second = (
  sym (ap (λ p. slice_get list p.0) is.pair) ∙ first,
  sym (ap (λ p. slice_get list p.1) is.pair) ∙ second,
)
