-- Sets of slots as bits, and the lowest slots that are open.
use Rattle.std.proofs.Common.{◌≡◌, ◌≢◌, ℕ, zero, suc, ◌+◌, ◌-◌, ◌*◌, ◌/◌, ◌%◌, ◌^◌, ◌<◌, ◌≤◌, ◌==◌}
use Rattle.std.proofs.Common.{Bool, true, false, List, [], ◌∷◌, ◌++◌, length, get_or, set, refl}
use Rattle.std.proofs.Common.{sym, ap, ◌∙◌, arith, cond, w64, ⊎_elim, get_or-set_same}
use Rattle.std.proofs.Common.{get_or-set_other, append_assoc, append-nil, replicate}
use Rattle.std.specs.Prelude.{not, ◌&&◌, ◌||◌}
use Rattle.std.specs.Int.{bit_at, bit_not}
use Rattle.std.specs.Int.RustNames.{bit_or}
use lib.Bits.{bit_and}
use Rattle.std.proofs.lemmas.Bool.{cases_eq}
use Rattle.std.proofs.lemmas.List.{get_or_default}
use Rattle.std.proofs.lemmas.Bool.Decides.{nat_tests}
use Rattle.std.proofs.lemmas.Nat.Bits.{bit_at_set_same, bit_at_set_other, bit_at-lt, bit_at-zero}
use Rattle.std.proofs.lemmas.Nat.Bits.{bit_at_clear_same, bit_at_clear_other, bit_at_ones}
use Rattle.addr_book.specs.SlotSet.{has_slot, open_slots}

differ : (a b : ℕ) → a ≢ b → (a == b) ≡ false
differ a b ne = grind (arith, nat_tests)

alike : (a b : ℕ) → a ≡ b → (a == b) ≡ true
alike a b e = grind (arith, nat_tests)

module _ (words : List ℕ) (slot : ℕ) (within : slot / 64 < length words) where
  bit : ℕ
  bit = slot % 64

  bit_below : slot % 64 < 64
  bit_below = omega arith

  same_slot : (other : ℕ) → other / 64 ≡ slot / 64 → other % 64 ≡ slot % 64 → slot ≡ other
  same_slot other e f = omega (arith, e, f)

  abbrev after : ℕ → List ℕ
  after word = set words (slot / 64) word

  at_word : (word other : ℕ) → other / 64 ≡ slot / 64
      → has_slot (after word) other ≡ (bit_at word (other % 64) == 1)
  at_word word other e = ap (λ w. bit_at w (other % 64) == 1)
      (ap (λ n. get_or (after word) n 0) e ∙ get_or-set_same words (slot / 64) word 0 within)

  other_word : (word other : ℕ) → other / 64 ≢ slot / 64
      → has_slot (after word) other ≡ has_slot words other
  other_word word other ne = ap (λ w. bit_at w (other % 64) == 1)
      (get_or-set_other words (slot / 64) (other / 64) word 0 ne)

  old_word : (other : ℕ) → other / 64 ≡ slot / 64
      → (bit_at (get_or words (slot / 64) 0) (other % 64) == 1) ≡ has_slot words other
  old_word other e = ap (λ n. bit_at (get_or words n 0) (other % 64) == 1) (sym e)

  pub has-put : (other : ℕ) → has_slot
      (after (bit_or (get_or words (slot / 64) 0) (1 * 2 ^ (slot % 64) % 2 ^ 64))) other
      ≡ (slot == other || has_slot words other)
  has-put other =
      let word = bit_or (get_or words (slot / 64) 0) (1 * 2 ^ (slot % 64) % 2 ^ 64) in
      ⊎_elim
      (λ e. at_word word other e
      ∙ ⊎_elim
      (λ f. ap (λ n. n == 1) (ap (bit_at word) f
      ∙ bit_at_set_same w64 (get_or words (slot / 64) 0) (slot % 64) bit_below)
      ∙ ap (λ b. b || has_slot words other) (sym (alike slot other (same_slot other e f))))
      (λ ne. ap (λ n. n == 1)
      (bit_at_set_other w64 (get_or words (slot / 64) 0) (slot % 64) bit_below (other % 64) ne)
      ∙ (old_word other e ∙ ap (λ b. b || has_slot words other)
      (sym (differ slot other (λ g. ne (ap (λ n. n % 64) (sym g)))))))
      (cases_eq (other % 64) (slot % 64)))
      (λ ne. other_word word other ne ∙ ap (λ b. b || has_slot words other)
      (sym (differ slot other (λ g. ne (ap (λ n. n / 64) (sym g))))))
      (cases_eq (other / 64) (slot / 64))

  pub has-take : (other : ℕ)
      → has_slot (after (bit_and (get_or words (slot / 64) 0)
      (bit_not w64 (1 * 2 ^ (slot % 64) % 2 ^ 64)))) other
      ≡ (not (slot == other) && has_slot words other)
  has-take other =
      let word = bit_and (get_or words (slot / 64) 0)
      (bit_not w64 (1 * 2 ^ (slot % 64) % 2 ^ 64)) in
      ⊎_elim
      (λ e. at_word word other e
      ∙ ⊎_elim
      (λ f. ap (λ n. n == 1) (ap (bit_at word) f
      ∙ bit_at_clear_same w64 (get_or words (slot / 64) 0) (slot % 64) bit_below)
      ∙ ap (λ b. not b && has_slot words other) (sym (alike slot other (same_slot other e f))))
      (λ ne. ap (λ n. n == 1)
      (bit_at_clear_other w64 (get_or words (slot / 64) 0) (slot % 64) bit_below (other % 64)
      (omega arith) ne)
      ∙ (old_word other e ∙ ap (λ b. not b && has_slot words other)
      (sym (differ slot other (λ g. ne (ap (λ n. n % 64) (sym g)))))))
      (cases_eq (other % 64) (slot % 64)))
      (λ ne. other_word word other ne ∙ ap (λ b. not b && has_slot words other)
      (sym (differ slot other (λ g. ne (ap (λ n. n / 64) (sym g))))))
      (cases_eq (other / 64) (slot / 64))

  -- the same with the word that was read
  module _ (word : ℕ) (is : word ≡ get_or words (slot / 64) word) where
    read : word ≡ get_or words (slot / 64) 0
    read = is ∙ get_or_default words (slot / 64) word 0 within

    pub has-put_read : (other : ℕ) → has_slot
        (set words (slot / 64) (bit_or word (1 * 2 ^ (slot % 64) % 2 ^ 64))) other
        ≡ (slot == other || has_slot words other)
    has-put_read other = ap
        (λ w. has_slot (set words (slot / 64) (bit_or w (1 * 2 ^ (slot % 64) % 2 ^ 64))) other)
        read ∙ has-put other

    pub has-take_read : (other : ℕ)
        → has_slot (set words (slot / 64)
        (bit_and word (bit_not w64 (1 * 2 ^ (slot % 64) % 2 ^ 64)))) other
        ≡ (not (slot == other) && has_slot words other)
    has-take_read other =
        ap (λ w. has_slot (set words (slot / 64)
        (bit_and w (bit_not w64 (1 * 2 ^ (slot % 64) % 2 ^ 64)))) other) read ∙ has-take other

-- ---- the open slots

pub open-add : (taken : ℕ → Bool) (m n from : ℕ) → open_slots taken (m + n) from
    ≡ open_slots taken m from ++ open_slots taken n (from + m)
unfolding open_slots
open-add taken zero n from = let e : 0 + n ≡ n = omega arith in
    let f : from + 0 ≡ from = omega arith in rw (e, f) refl
open-add taken (suc m) n from =
    let e : suc m + n ≡ suc (m + n) = omega arith in
    let f : (from + 1) + m ≡ from + suc m = omega arith in
    let rest = open-add taken m n (from + 1)
    ∙ ap (λ k. open_slots taken m (from + 1) ++ open_slots taken n k) f in
    ap (λ k. open_slots taken k from) e
    ∙ elim (taken from) as (λ b. cond b (open_slots taken (m + n) (from + 1))
    (from ∷ open_slots taken (m + n) (from + 1))
    ≡ cond b (open_slots taken m (from + 1)) (from ∷ open_slots taken m (from + 1))
    ++ open_slots taken n (from + suc m)) [ true ↦ rest | false ↦ ap (λ xs. from ∷ xs) rest ]

pub open-full : (taken : ℕ → Bool) (n from : ℕ) → ((k : ℕ) → k < n → taken (from + k) ≡ true)
    → open_slots taken n from ≡ []
unfolding open_slots
open-full taken zero from h = refl
open-full taken (suc n) from h =
    let here : taken from ≡ true = ap taken (omega arith) ∙ h 0 (omega arith) in
    rw here (open-full taken n (from + 1)
    (λ k lt. ap taken (omega arith) ∙ h (suc k) (omega arith)))

pub open-same : (taken other : ℕ → Bool) (n from : ℕ) → ((k : ℕ) → taken k ≡ other k)
    → open_slots taken n from ≡ open_slots other n from
unfolding open_slots
open-same taken other zero from h = refl
open-same taken other (suc n) from h =
    let rest = open-same taken other n (from + 1) h in
    λ i. cond (h from i) (rest i) (from ∷ rest i)

-- the steps over the bits of a word
module _ (taken : ℕ → Bool) (word first bit : ℕ) (lt : bit < 64)
    (is : taken (first + bit) ≡ (bit_at word bit == 1)) (old all : List ℕ)
    (was : old ++ open_slots taken (64 - bit) (first + bit) ≡ all) where
  abbrev left : List ℕ
  left = open_slots taken (64 - (bit + 1)) (first + (bit + 1))

  one_more : 64 - bit ≡ suc (64 - (bit + 1))
  one_more = omega arith

  next : (first + bit) + 1 ≡ first + (bit + 1)
  next = omega arith

  split : open_slots taken (64 - bit) (first + bit)
      ≡ cond (bit_at word bit == 1) left ((first + bit) ∷ left)
  unfolding open_slots
  split =
      ap (λ n. open_slots taken n (first + bit)) one_more
      ∙ (ap (λ k. cond (taken (first + bit)) (open_slots taken (64 - (bit + 1)) k)
      ((first + bit) ∷ open_slots taken (64 - (bit + 1)) k)) next
      ∙ ap (λ b. cond b left ((first + bit) ∷ left)) is)

  pub open_bit : bit_at word bit ≡ 0 → (old ++ (first + bit) ∷ [])
      ++ open_slots taken (64 - (bit + 1)) (first + (bit + 1)) ≡ all
  open_bit clear =
      append_assoc old ((first + bit) ∷ []) left
      ∙ (ap (λ (xs : List ℕ). old ++ xs)
      (sym (split ∙ ap (λ n. cond (n == 1) left ((first + bit) ∷ left)) clear)) ∙ was)

  pub taken_bit : bit_at word bit ≡ 1
      → old ++ open_slots taken (64 - (bit + 1)) (first + (bit + 1)) ≡ all
  taken_bit marked = ap (λ (xs : List ℕ). old ++ xs)
      (sym (split ∙ ap (λ n. cond (n == 1) left ((first + bit) ∷ left)) marked)) ∙ was

pub bit_set : (word bit : ℕ) → (bit_at word bit ≡ 0 → ⊥) → bit_at word bit ≡ 1
bit_set word bit some = omega (arith, bit_at-lt word bit, positive (bit_at word bit) some)
  where
    positive : (n : ℕ) → (n ≡ 0 → ⊥) → 1 ≤ n
    positive zero h = absurd (h refl)
    positive (suc n) h = omega arith

pub bits_begin : (taken : ℕ → Bool) (first : ℕ) (old : List ℕ)
    → old ++ open_slots taken (64 - 0) (first + 0) ≡ old ++ open_slots taken 64 first
bits_begin taken first old = let e : first + 0 ≡ first = omega arith in
    ap (λ n. old ++ open_slots taken 64 n) e

pub bits_end : (taken : ℕ → Bool) (first bit : ℕ) (old all : List ℕ) → 64 ≤ bit
    → old ++ open_slots taken (64 - bit) (first + bit) ≡ all → old ≡ all
unfolding open_slots
bits_end taken first bit old all past is =
    let e : 64 - bit ≡ 0 = omega arith in
    sym (append-nil old) ∙ (ap (λ n. old ++ open_slots taken n (first + bit)) (sym e) ∙ is)

-- no slot is in the words of zeros
abbrev zeros : ℕ → List ℕ
zeros n = replicate n 0

zero_word : (n i : ℕ) → get_or (zeros n) i 0 ≡ 0
zero_word zero i = refl
zero_word (suc n) zero = refl
zero_word (suc n) (suc i) = zero_word n i

pub no_slot : (words : List ℕ) (n : ℕ) → words ≡ zeros n → (slot : ℕ) → has_slot words slot ≡ false
no_slot words n is slot =
    ap (λ ws. has_slot ws slot) is
    ∙ (ap (λ w. bit_at w (slot % 64) == 1) (zero_word n (slot / 64))
    ∙ ap (λ b. b == 1) (bit_at-zero (slot % 64)))

-- the words of a set
module _ (words : List ℕ) (at : ℕ) where
  pub has_word : (word : ℕ) → word ≡ get_or words at 0 → (bit : ℕ) → bit < 64
      → has_slot words (at * 64 + bit) ≡ (bit_at word bit == 1)
  has_word word is bit lt =
      let place : (at * 64 + bit) / 64 ≡ at = omega arith in
      let left : (at * 64 + bit) % 64 ≡ bit = omega arith in
      (λ i. bit_at (get_or words (place i) 0) (left i) == 1) ∙ ap (λ w. bit_at w bit == 1) (sym is)

  abbrev sofar : List ℕ
  sofar = open_slots (has_slot words) (at * 64) 0

  further : open_slots (has_slot words) ((at + 1) * 64) 0
      ≡ sofar ++ open_slots (has_slot words) 64 (at * 64)
  further =
      let e : (at + 1) * 64 ≡ at * 64 + 64 = omega arith in
      let f : 0 + at * 64 ≡ at * 64 = omega arith in
      ap (λ n. open_slots (has_slot words) n 0) e
      ∙ (open-add (has_slot words) (at * 64) 64 0
      ∙ ap (λ n. sofar ++ open_slots (has_slot words) 64 n) f)

  pub word_more : (old new : List ℕ) → old ≡ sofar → new
      ≡ old ++ open_slots (has_slot words) 64 (at * 64)
      → new ≡ open_slots (has_slot words) ((at + 1) * 64) 0
  word_more old new was is =
      is ∙ (ap (λ xs. xs ++ open_slots (has_slot words) 64 (at * 64)) was ∙ sym further)

  pub word_full : (word : ℕ) → word ≡ get_or words at 0 → word ≡ 2 ^ 64 - 1 → (old : List ℕ)
      → old ≡ sofar → old ≡ open_slots (has_slot words) ((at + 1) * 64) 0
  word_full word is full old was =
      let none = open-full (has_slot words) 64 (at * 64)
      (λ k lt. has_word word is k lt
      ∙ (ap (λ w. bit_at w k == 1) full ∙ ap (λ n. n == 1) (bit_at_ones 64 k lt))) in
      was ∙ (sym (append-nil sofar) ∙ (ap (λ xs. sofar ++ xs) (sym none) ∙ sym further))
