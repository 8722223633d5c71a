-- Sets of places as bits: places that are put in and taken out, and the lowest that are there.
use Rattle.std.proofs.Common.{◌≡◌, ◌≢◌, ℕ, zero, suc, ◌+◌, ◌-◌, ◌*◌, ◌/◌, ◌%◌, ◌^◌, ◌<◌, ◌≤◌, ◌==◌}
use Rattle.std.proofs.Common.{true, false, List, length, get_or, set, refl, sym, ap, ◌∙◌, arith}
use Rattle.std.proofs.Common.{w64, ⊎_elim, get_or-set_same, get_or-set_other, replicate}
use Rattle.std.specs.Prelude.{not, ◌&&◌, ◌||◌, min, max}
use Rattle.std.specs.Int.{bit_at, trailing_zeros}
use Rattle.std.specs.Int.RustNames.{bit_or, bit_xor}
use lib.Bits.{bit_and}
use Rattle.std.proofs.lemmas.Bool.{cases_eq, cases_lt}
use Rattle.std.proofs.lemmas.Bool.Decides.{nat_tests}
use Rattle.std.proofs.lemmas.List.{get_or-replicate}
use Rattle.std.proofs.lemmas.Nat.{le_or_l, le_or_r}
use Rattle.std.proofs.lemmas.Nat.Bits.{bit_at_set_same, bit_at_set_other, bit_at-lt, bit_at-zero}
use Rattle.std.proofs.lemmas.Nat.Bits.{bit_at_and, bit_at_or, bit_at_xor, bit_at_ones, bit_at_above}
use Rattle.std.proofs.lemmas.Nat.Bits.{bit_at-trailing_zeros, ones_shl, bit_at_mask_inside}
use Rattle.std.proofs.lemmas.Nat.Bits.{bit_at_mask_below}
use Rattle.dtab_index.specs.Bits.{has}

differ : (a b : ℕ) → a ≢ b → (a == b) ≡ false
differ a b ne = grind (arith, nat_tests)

alike : (a b : ℕ) → a ≡ b → (a == b) ≡ true
alike a b e = grind (arith, nat_tests)

zero_from : (n : ℕ) → (n == 0) ≡ true → n ≡ 0
zero_from n h = grind (arith, nat_tests)

-- ---- a place that is put in
module _ (words : List ℕ) (place : ℕ) (within : place / 64 < length words) where
  bit_below : place % 64 < 64
  bit_below = omega arith

  same_place : (other : ℕ) → other / 64 ≡ place / 64 → other % 64 ≡ place % 64 → place ≡ other
  same_place other e f = omega (arith, e, f)

  abbrev after : ℕ → List ℕ
  after word = set words (place / 64) word

  at_word : (word other : ℕ) → other / 64 ≡ place / 64
      → has (after word) other ≡ (bit_at word (other % 64) == 1)
  at_word word other e = ap (λ w. bit_at w (other % 64) == 1)
      (ap (λ n. get_or (after word) n 0) e ∙ get_or-set_same words (place / 64) word 0 within)

  other_word : (word other : ℕ) → other / 64 ≢ place / 64 → has (after word) other ≡ has words other
  other_word word other ne = ap (λ w. bit_at w (other % 64) == 1)
      (get_or-set_other words (place / 64) (other / 64) word 0 ne)

  old_word : (other : ℕ) → other / 64 ≡ place / 64
      → (bit_at (get_or words (place / 64) 0) (other % 64) == 1) ≡ has words other
  old_word other e = ap (λ n. bit_at (get_or words n 0) (other % 64) == 1) (sym e)

  pub has-put : (other : ℕ)
      → has (after (bit_or (get_or words (place / 64) 0) (1 * 2 ^ (place % 64) % 2 ^ 64))) other
      ≡ (place == other || has words other)
  has-put other =
      let word = bit_or (get_or words (place / 64) 0) (1 * 2 ^ (place % 64) % 2 ^ 64) in
      ⊎_elim
      (λ e. at_word word other e
      ∙ ⊎_elim
      (λ f. ap (λ n. n == 1) (ap (bit_at word) f
      ∙ bit_at_set_same w64 (get_or words (place / 64) 0) (place % 64) bit_below)
      ∙ ap (λ b. b || has words other) (sym (alike place other (same_place other e f))))
      (λ ne. ap (λ n. n == 1)
      (bit_at_set_other w64 (get_or words (place / 64) 0) (place % 64) bit_below (other % 64) ne)
      ∙ (old_word other e ∙ ap (λ b. b || has words other)
      (sym (differ place other (λ g. ne (ap (λ n. n % 64) (sym g)))))))
      (cases_eq (other % 64) (place % 64)))
      (λ ne. other_word word other ne ∙ ap (λ b. b || has words other)
      (sym (differ place other (λ g. ne (ap (λ n. n / 64) (sym g))))))
      (cases_eq (other / 64) (place / 64))

-- ---- every place from one on
all_places : (place : ℕ) → place < 1024 → has (replicate 16 (2 ^ 64 - 1)) place ≡ true
all_places place few =
    ap (λ w. bit_at w (place % 64) == 1)
    (get_or-replicate 16 (place / 64) (2 ^ 64 - 1) 0 (omega arith))
    ∙ ap (λ n. n == 1) (bit_at_ones 64 (place % 64) (omega arith))

pub places_from : (first : ℕ) → first < 1024 → (place : ℕ) → first ≤ place → place < 1024
    → has (set (replicate 16 (2 ^ 64 - 1)) (first / 64) ((2 ^ 64 - 1) * 2 ^ (first % 64) % 2 ^ 64))
    place ≡ true
places_from first low place past few =
    let all : List ℕ = replicate 16 (2 ^ 64 - 1) in
    let word : ℕ = (2 ^ 64 - 1) * 2 ^ (first % 64) % 2 ^ 64 in
    let within : first / 64 < length all = omega arith in
    let low_bit : first % 64 ≤ 64 = omega arith in
    ⊎_elim
    (λ (e : place / 64 ≡ first / 64).
    let above : first % 64 ≤ place % 64 = omega (arith, e, past) in
    let high : place % 64 < 64 = omega arith in
    at_word all first within word place e
    ∙ ap (λ n. n == 1) (ap (λ n. bit_at n (place % 64)) (ones_shl 64 (first % 64) low_bit)
    ∙ bit_at_mask_inside (first % 64) 64 (place % 64) above high))
    (λ ne. other_word all first within word place ne ∙ all_places place few)
    (cases_eq (place / 64) (first / 64))

pub no_place : (words : List ℕ) (place : ℕ) → get_or words (place / 64) 0 ≡ 0
    → has words place ≡ false
no_place words place none = ap (λ w. bit_at w (place % 64) == 1) none
    ∙ ap (λ n. n == 1) (bit_at-zero (place % 64))

-- ---- words that are made one by one, from a first one on
pub record AreMade (f : ℕ → ℕ) (old now : List ℕ) (first at : ℕ) : Type 0 where
  pub made : (k : ℕ) → first ≤ k → k < at → get_or now k 0 ≡ f k
  pub rest : (k : ℕ) → at ≤ k → get_or now k 0 ≡ get_or old k 0

pub none_made : (f : ℕ → ℕ) (old : List ℕ) (first : ℕ) → AreMade f old old first first
none_made f old first =
    record { made = λ k le lt. absurd (omega (arith, le, lt)); rest = λ k le. refl }

pub made_more : (f : ℕ → ℕ) (old now : List ℕ) (first at word : ℕ) → at < length now
    → AreMade f old now first at → word ≡ f at → AreMade f old (set now at word) first (at + 1)
made_more f old now first at word within made is = record {
  made = λ k past lt.
      ⊎_elim
      (λ (e : k ≡ at). ap (λ n. get_or (set now at word) n 0) e
      ∙ (get_or-set_same now at word 0 within ∙ (is ∙ ap f (sym e))))
      (λ (ne : k ≡ at → ⊥). get_or-set_other now at k word 0 ne
      ∙ made.made k past (omega (arith, ne)))
      (cases_eq k at);
  rest = λ k le. get_or-set_other now at k word 0 (λ e. omega (arith, e, le))
      ∙ made.rest k (omega arith);
}

-- words that are made, of which none has a bit that another has not
pub record AreMadeOf (f : ℕ → ℕ) (old now : List ℕ) (first at all : ℕ) : Type 0 where
  pub words : AreMade f old now first at
  pub most : (k : ℕ) → first ≤ k → k < at → get_or now k 0 ≤ all

pub none_made_of : (f : ℕ → ℕ) (old : List ℕ) (first : ℕ) → AreMadeOf f old old first first 0
none_made_of f old first =
    record { words = none_made f old first; most = λ k past lt. absurd (omega (arith, past, lt)) }

pub made_of_more : (f : ℕ → ℕ) (old now : List ℕ) (first at all word next : ℕ) → at < length now
    → AreMadeOf f old now first at all → word ≡ f at → next ≡ bit_or all word
    → AreMadeOf f old (set now at word) first (at + 1) next
made_of_more f old now first at all word next within made is joined = record {
  words = made_more f old now first at word within made.words is;
  most = λ k past lt.
      ⊎_elim
      (λ (e : k ≡ at).
      let here : get_or (set now at word) k 0 ≡ word = ap (λ n. get_or (set now at word) n 0) e
      ∙ get_or-set_same now at word 0 within in
      omega (arith, here, joined, le_or_r all word))
      (λ (ne : k ≡ at → ⊥).
      let here : get_or (set now at word) k 0 ≡ get_or now k 0 =
      get_or-set_other now at k word 0 ne in
      let before : get_or now k 0 ≤ all = made.most k past (omega (arith, ne, lt)) in
      omega (arith, here, joined, le_or_l all word, before))
      (cases_eq k at);
}

-- none is left where all of them together have no bit
pub none_made_left : (f : ℕ → ℕ) (old now : List ℕ) (first at all : ℕ) → 16 ≤ at
    → AreMadeOf f old now (first / 64) at all → (all == 0) ≡ true
    → (place : ℕ) → first ≤ place → place < 1024 → has now place ≡ false
none_made_left f old now first at all ended made none place past few =
    let zero_is : all ≡ 0 = zero_from all none in
    let most : get_or now (place / 64) 0 ≤ all =
    made.most (place / 64) (omega (arith, past)) (omega (arith, few, ended)) in
    no_place now place (omega (arith, zero_is, most))

-- ---- bit by bit
removed : (x y : ℕ) → x < 2 → y < 2 → ((x + min x y) % 2 == 1) ≡ ((x == 1) && not (y == 1))
removed zero zero lx ly = refl
removed zero (suc zero) lx ly = refl
removed (suc zero) zero lx ly = refl
removed (suc zero) (suc zero) lx ly = refl
removed (suc (suc x)) y lx ly = absurd (omega arith)
removed x (suc (suc y)) lx ly = absurd (omega arith)

kept : (x z y : ℕ) → x < 2 → z < 2 → y < 2 → (max (min x z) ((x + min x y) % 2) == 1)
    ≡ ((x == 1) && ((z == 1) || not (y == 1)))
kept zero zero zero lx lz ly = refl
kept zero zero (suc zero) lx lz ly = refl
kept zero (suc zero) zero lx lz ly = refl
kept zero (suc zero) (suc zero) lx lz ly = refl
kept (suc zero) zero zero lx lz ly = refl
kept (suc zero) zero (suc zero) lx lz ly = refl
kept (suc zero) (suc zero) zero lx lz ly = refl
kept (suc zero) (suc zero) (suc zero) lx lz ly = refl
kept (suc (suc x)) z y lx lz ly = absurd (omega arith)
kept x (suc (suc z)) y lx lz ly = absurd (omega arith)
kept x z (suc (suc y)) lx lz ly = absurd (omega arith)

bit_removed : (a b i : ℕ) → (bit_at (bit_xor a (bit_and a b)) i == 1)
    ≡ ((bit_at a i == 1) && not (bit_at b i == 1))
bit_removed a b i =
    ap (λ n. n == 1) (bit_at_xor a (bit_and a b) i
    ∙ ap (λ n. (bit_at a i + n) % 2) (bit_at_and a b i))
    ∙ removed (bit_at a i) (bit_at b i) (bit_at-lt a i) (bit_at-lt b i)

bit_kept : (a k b i : ℕ) → (bit_at (bit_or (bit_and a k) (bit_xor a (bit_and a b))) i == 1)
    ≡ ((bit_at a i == 1) && ((bit_at k i == 1) || not (bit_at b i == 1)))
bit_kept a k b i =
    let left : bit_at (bit_and a k) i ≡ min (bit_at a i) (bit_at k i) = bit_at_and a k i in
    let right : bit_at (bit_xor a (bit_and a b)) i
    ≡ (bit_at a i + min (bit_at a i) (bit_at b i)) % 2 =
    bit_at_xor a (bit_and a b) i ∙ ap (λ n. (bit_at a i + n) % 2) (bit_at_and a b i) in
    ap (λ n. n == 1) (bit_at_or (bit_and a k) (bit_xor a (bit_and a b)) i
    ∙ (λ j. max (left j) (right j)))
    ∙ kept (bit_at a i) (bit_at k i) (bit_at b i) (bit_at-lt a i) (bit_at-lt k i) (bit_at-lt b i)

module _ (old others now : List ℕ) (place : ℕ) where
  pub has-removed : get_or now (place / 64) 0
      ≡ bit_xor (get_or old (place / 64) 0)
      (bit_and (get_or old (place / 64) 0) (get_or others (place / 64) 0))
      → has now place ≡ (has old place && not (has others place))
  has-removed is = ap (λ w. bit_at w (place % 64) == 1) is
      ∙ bit_removed (get_or old (place / 64) 0) (get_or others (place / 64) 0) (place % 64)

  pub has-kept : (row : List ℕ) → get_or now (place / 64) 0
      ≡ bit_or (bit_and (get_or old (place / 64) 0) (get_or row (place / 64) 0))
      (bit_xor (get_or old (place / 64) 0)
      (bit_and (get_or old (place / 64) 0) (get_or others (place / 64) 0)))
      → has now place ≡ (has old place && (has row place || not (has others place)))
  has-kept row is =
      ap (λ w. bit_at w (place % 64) == 1) is
      ∙ bit_kept (get_or old (place / 64) 0) (get_or row (place / 64) 0)
      (get_or others (place / 64) 0) (place % 64)

-- ---- the lowest bit from one on
min_one : (x : ℕ) → x < 2 → min x 1 ≡ x
min_one zero lt = refl
min_one (suc zero) lt = refl
min_one (suc (suc x)) lt = absurd (omega arith)

min_zero : (x : ℕ) → x < 2 → min x 0 ≡ 0
min_zero zero lt = refl
min_zero (suc zero) lt = refl
min_zero (suc (suc x)) lt = absurd (omega arith)

zero_one : (n : ℕ) → n ≡ 0 → n ≡ 1 → ⊥
zero_one n e f = omega (arith, e, f)

pub past_word : (word from : ℕ) → word < 2 ^ 64 → 64 ≤ from → (bit : ℕ) → from ≤ bit
    → bit_at word bit ≡ 0
past_word word from small past bit le = bit_at_above word 64 bit small (omega arith)

module _ (word from rest : ℕ) (small : word < 2 ^ 64) (low : from < 64)
    (is : rest ≡ bit_and word ((2 ^ 64 - 1) * 2 ^ from % 2 ^ 64)) where
  masked : rest ≡ bit_and word (2 ^ 64 - 2 ^ from)
  masked = is ∙ ap (bit_and word) (ones_shl 64 from (omega arith))

  inside : (i : ℕ) → from ≤ i → i < 64 → bit_at rest i ≡ bit_at word i
  inside i le lt =
      ap (λ n. bit_at n i) masked
      ∙ (bit_at_and word (2 ^ 64 - 2 ^ from) i
      ∙ (ap (min (bit_at word i)) (bit_at_mask_inside from 64 i le lt)
      ∙ min_one (bit_at word i) (bit_at-lt word i)))

  below : (i : ℕ) → i < from → bit_at rest i ≡ 0
  below i lt =
      ap (λ n. bit_at n i) masked
      ∙ (bit_at_and word (2 ^ 64 - 2 ^ from) i
      ∙ (ap (min (bit_at word i)) (bit_at_mask_below from 64 i lt)
      ∙ min_zero (bit_at word i) (bit_at-lt word i)))

  pub no_bit : rest ≡ 0 → (bit : ℕ) → from ≤ bit → bit_at word bit ≡ 0
  no_bit e bit le =
      ⊎_elim
      (λ (lt : bit < 64). sym (inside bit le lt) ∙ (ap (λ n. bit_at n bit) e ∙ bit_at-zero bit))
      (λ (ge : 64 ≤ bit). bit_at_above word 64 bit small ge)
      (cases_lt bit 64)

  pub next_is : 0 < rest → rest < 2 ^ 64 → (from ≤ trailing_zeros w64 rest)
      × (trailing_zeros w64 rest < 64) × (bit_at word (trailing_zeros w64 rest) ≡ 1)
      × ((bit : ℕ) → from ≤ bit → bit < trailing_zeros w64 rest → bit_at word bit ≡ 0)
  next_is some fits =
      let t = trailing_zeros w64 rest in
      let found = bit_at-trailing_zeros w64 rest some fits in
      let above : from ≤ t =
      ⊎_elim (λ (lt : t < from). absurd (zero_one (bit_at rest t) (below t lt) found.1))
      (λ (ge : from ≤ t). ge) (cases_lt t from) in
      let high : t < 64 = found.0 in (
        above,
        high,
        sym (inside t above high) ∙ found.1,
        λ bit le lt. sym (inside bit le (omega (arith, lt, high))) ∙ found.2 bit lt,
      )
