-- What stands at the places of a set: place by place, and word by word.
use Rattle.std.proofs.Common.{◌≡◌, ℕ, zero, suc, ◌+◌, ◌-◌, ◌*◌, ◌/◌, ◌%◌, ◌<◌, ◌≤◌, ◌==◌, ◌++◌}
use Rattle.std.proofs.Common.{Bool, true, false, List, [], get_or, refl, sym, ap, ◌∙◌, arith}
use Rattle.std.proofs.Common.{append_assoc, append-nil, Some, None}
use Rattle.std.specs.Prelude.{if◌then◌else◌}
use Rattle.std.specs.Int.{bit_at}
use Rattle.std.specs.List.{list_any}
use Rattle.std.proofs.lemmas.Bool.{or_from, or_left, or_right}
use Rattle.std.proofs.lemmas.List.Folds.{list_any-append}
use Rattle.std.proofs.lemmas.Nat.Bits.{bit_at-zero}
use Rattle.dtab_index.specs.Bits.{has}
use Rattle.dtab_index.specs.Listed.{listed, in_word, IsNextBit}

pub listed-add : (test : ℕ → Bool) (f : ℕ → List ℕ) (m n from : ℕ)
    → listed test f (m + n) from ≡ listed test f m from ++ listed test f n (from + m)
unfolding listed
listed-add test f zero n from = let e : 0 + n ≡ n = omega arith in
    let g : from + 0 ≡ from = omega arith in rw (e, g) refl
listed-add test f (suc m) n from =
    let e : suc m + n ≡ suc (m + n) = omega arith in
    let g : (from + 1) + m ≡ from + suc m = omega arith in
    let here : List ℕ = if test from then f from else [] in
    ap (λ k. listed test f k from) e
    ∙ (ap (λ xs. here ++ xs) (listed-add test f m n (from + 1)
    ∙ ap (λ k. listed test f m (from + 1) ++ listed test f n k) g)
    ∙ sym (append_assoc here (listed test f m (from + 1)) (listed test f n (from + suc m))))

pub listed-none : (test : ℕ → Bool) (f : ℕ → List ℕ) (n from : ℕ)
    → ((k : ℕ) → k < n → test (from + k) ≡ false) → listed test f n from ≡ []
unfolding listed
listed-none test f zero from none = refl
listed-none test f (suc n) from none =
    let here : test from ≡ false = ap test (omega arith) ∙ none 0 (omega arith) in
    rw here (listed-none test f n (from + 1)
    (λ k lt. ap test (omega arith) ∙ none (suc k) (omega arith)))

pub listed-same : (test other : ℕ → Bool) (f : ℕ → List ℕ) (n from : ℕ)
    → ((k : ℕ) → k < n → test (from + k) ≡ other (from + k))
    → listed test f n from ≡ listed other f n from
unfolding listed
listed-same test other f zero from same = refl
listed-same test other f (suc n) from same =
    let here : test from ≡ other from = ap test (omega arith)
    ∙ (same 0 (omega arith) ∙ ap other (omega arith)) in
    let rest = listed-same test other f n (from + 1)
    (λ k lt. ap test (omega arith) ∙ (same (suc k) (omega arith) ∙ ap other (omega arith))) in
    rw (here, rest) refl

no_choice : (b : Bool) (xs : List ℕ) → xs ≡ [] → (if b then xs else []) ≡ []
no_choice true xs none = none
no_choice false xs none = refl

-- places at which nothing stands
pub listed-empty : (test : ℕ → Bool) (f : ℕ → List ℕ) (n from : ℕ)
    → ((k : ℕ) → k < n → f (from + k) ≡ []) → listed test f n from ≡ []
unfolding listed
listed-empty test f zero from none = refl
listed-empty test f (suc n) from none =
    let here : f from ≡ [] = ap f (omega arith) ∙ none 0 (omega arith) in
    let one : (if test from then f from else []) ≡ [] = no_choice (test from) (f from) here in
    let rest : listed test f n (from + 1) ≡ [] =
    listed-empty test f n (from + 1) (λ k lt. ap f (omega arith) ∙ none (suc k) (omega arith)) in
    λ i. one i ++ rest i

listed-one : (test : ℕ → Bool) (f : ℕ → List ℕ) (at : ℕ) → test at ≡ true
    → listed test f 1 at ≡ f at
unfolding listed
listed-one test f at is = rw is (append-nil (f at))

-- the next place that passes
module _ (test : ℕ → Bool) (f : ℕ → List ℕ) (first : ℕ) where
  pub listed-next : (bit next : ℕ) → bit ≤ next → test (first + next) ≡ true
      → ((k : ℕ) → bit ≤ k → k < next → test (first + k) ≡ false)
      → listed test f (next + 1) first ≡ listed test f bit first ++ f (first + next)
  listed-next bit next le is none =
      let whole : next + 1 ≡ bit + ((next - bit) + 1) = omega arith in
      let place : (first + bit) + (next - bit) ≡ first + next = omega arith in
      let skipped : listed test f (next - bit) (first + bit) ≡ [] =
      listed-none test f (next - bit) (first + bit)
      (λ k lt. ap test (omega arith) ∙ none (bit + k) (omega arith) (omega arith)) in
      let tail : listed test f ((next - bit) + 1) (first + bit) ≡ f (first + next) =
      listed-add test f (next - bit) 1 (first + bit)
      ∙ (ap (λ xs. xs ++ listed test f 1 ((first + bit) + (next - bit))) skipped
      ∙ (ap (listed test f 1) place ∙ listed-one test f (first + next) is)) in
      ap (λ k. listed test f k first) whole
      ∙ (listed-add test f bit ((next - bit) + 1) first
      ∙ ap (λ xs. listed test f bit first ++ xs) tail)

  pub listed-last : (bit n : ℕ) → bit ≤ n → ((k : ℕ) → bit ≤ k → k < n → test (first + k) ≡ false)
      → listed test f n first ≡ listed test f bit first
  listed-last bit n le none =
      let whole : n ≡ bit + (n - bit) = omega arith in
      ap (λ k. listed test f k first) whole
      ∙ (listed-add test f bit (n - bit) first
      ∙ (ap (λ xs. listed test f bit first ++ xs)
      (listed-none test f (n - bit) (first + bit)
      (λ k lt. ap test (omega arith) ∙ none (bit + k) (omega arith) (omega arith)))
      ∙ append-nil (listed test f bit first)))

-- ---- the places of a word
module _ (f : ℕ → List ℕ) (word first : ℕ) where
  bit_of : (k : ℕ) → in_word word first (first + k) ≡ (bit_at word k == 1)
  bit_of k = let e : (first + k) - first ≡ k = omega arith in ap (λ n. bit_at word n == 1) e

  pub word_next : (bit next : ℕ) → IsNextBit word bit (Some next)
      → listed (in_word word first) f (next + 1) first ≡ listed (in_word word first) f bit first
      ++ f (first + next)
  word_next bit next is =
      listed-next (in_word word first) f first bit next is.0 (bit_of next ∙ ap (λ n. n == 1) is.2)
      (λ k le lt. bit_of k ∙ ap (λ n. n == 1) (is.3 k le lt))

  pub word_last : (bit : ℕ) → bit ≤ 64 → IsNextBit word bit None
      → listed (in_word word first) f 64 first ≡ listed (in_word word first) f bit first
  word_last bit le is = listed-last (in_word word first) f first bit 64 le
      (λ k ge lt. bit_of k ∙ ap (λ n. n == 1) (is k ge))

  pub word_zero : word ≡ 0 → listed (in_word word first) f 64 first ≡ []
  word_zero none = listed-none (in_word word first) f 64 first
      (λ k lt. bit_of k ∙ ap (λ n. n == 1) (ap (λ w. bit_at w k) none ∙ bit_at-zero k))

  -- what is put behind some others, or is none of some, place by place
  pub put_next : (bit next : ℕ) (old items new xs : List ℕ) → IsNextBit word bit (Some next)
      → items ≡ old ++ listed (in_word word first) f bit first → new ≡ items ++ xs
      → xs ≡ f (first + next)
      → new ≡ old ++ listed (in_word word first) f (next + 1) first
  put_next bit next old items new xs is was pushed here =
      let before : List ℕ = listed (in_word word first) f bit first in
      pushed
      ∙ (ap (λ ys. ys ++ xs) was
      ∙ (append_assoc old before xs ∙ ap (λ ys. old ++ ys)
      (ap (λ ys. before ++ ys) here ∙ sym (word_next bit next is))))

  module _ (p : ℕ → Bool) where
    pub some_next : (bit next : ℕ) → IsNextBit word bit (Some next)
        → list_any p (listed (in_word word first) f bit first) ≡ false
        → list_any p (f (first + next)) ≡ false
        → list_any p (listed (in_word word first) f (next + 1) first) ≡ false
    some_next bit next is was here =
        let before : List ℕ = listed (in_word word first) f bit first in
        ap (list_any p) (word_next bit next is)
        ∙ (list_any-append p before (f (first + next))
        ∙ or_from (list_any p before) (list_any p (f (first + next))) was here)

    pub some_here : (bit next : ℕ) → IsNextBit word bit (Some next)
        → list_any p (f (first + next)) ≡ true
        → true ≡ list_any p (listed (in_word word first) f 64 first)
    some_here bit next is here =
        let low : next < 64 = is.1 in
        let before : List ℕ = listed (in_word word first) f bit first in
        let rest : List ℕ = listed (in_word word first) f (64 - (next + 1)) (first + (next + 1)) in
        let whole : 64 ≡ (next + 1) + (64 - (next + 1)) = omega (arith, low) in
        let found : list_any p (listed (in_word word first) f (next + 1) first) ≡ true =
        ap (list_any p) (word_next bit next is)
        ∙ (list_any-append p before (f (first + next))
        ∙ or_right (list_any p before) (list_any p (f (first + next))) here) in
        sym
        (ap (λ n. list_any p (listed (in_word word first) f n first)) whole
        ∙ (ap (list_any p) (listed-add (in_word word first) f (next + 1) (64 - (next + 1)) first)
        ∙ (list_any-append p (listed (in_word word first) f (next + 1) first) rest
        ∙ or_left (list_any p (listed (in_word word first) f (next + 1) first))
        (list_any p rest) found)))

-- ---- word by word
module _ (f : ℕ → List ℕ) (words : List ℕ) (at word : ℕ) (is : word ≡ get_or words at 0) where
  pub word_listed : listed (in_word word (at * 64)) f 64 (at * 64)
      ≡ listed (has words) f 64 (at * 64)
  word_listed =
      listed-same (in_word word (at * 64)) (has words) f 64 (at * 64)
      (λ k lt.
      let quotient : (at * 64 + k) / 64 ≡ at = omega arith in
      let left : (at * 64 + k) % 64 ≡ k = omega arith in
      bit_of f word (at * 64) k
      ∙ sym ((λ i. bit_at (get_or words (quotient i) 0) (left i) == 1)
      ∙ ap (λ w. bit_at w k == 1) (sym is)))

  pub words_more : listed (has words) f ((at + 1) * 64) 0
      ≡ listed (has words) f (at * 64) 0 ++ listed (in_word word (at * 64)) f 64 (at * 64)
  words_more =
      let e : (at + 1) * 64 ≡ at * 64 + 64 = omega arith in
      let g : 0 + at * 64 ≡ at * 64 = omega arith in
      ap (λ n. listed (has words) f n 0) e
      ∙ (listed-add (has words) f (at * 64) 64 0
      ∙ (ap (λ n. listed (has words) f (at * 64) 0 ++ listed (has words) f 64 n) g
      ∙ ap (λ xs. listed (has words) f (at * 64) 0 ++ xs) (sym word_listed)))

  pub words_put : (old items new : List ℕ) → items ≡ old ++ listed (has words) f (at * 64) 0
      → new ≡ items ++ listed (in_word word (at * 64)) f 64 (at * 64)
      → new ≡ old ++ listed (has words) f ((at + 1) * 64) 0
  words_put old items new was pushed =
      let before : List ℕ = listed (has words) f (at * 64) 0 in
      let here : List ℕ = listed (in_word word (at * 64)) f 64 (at * 64) in
      pushed ∙ (ap (λ ys. ys ++ here) was
      ∙ (append_assoc old before here ∙ ap (λ ys. old ++ ys) (sym words_more)))

  module _ (p : ℕ → Bool) where
    pub words_none : list_any p (listed (has words) f (at * 64) 0) ≡ false
        → list_any p (listed (in_word word (at * 64)) f 64 (at * 64)) ≡ false
        → list_any p (listed (has words) f ((at + 1) * 64) 0) ≡ false
    words_none was here =
        let before : List ℕ = listed (has words) f (at * 64) 0 in
        let now : List ℕ = listed (in_word word (at * 64)) f 64 (at * 64) in
        ap (list_any p) words_more
        ∙ (list_any-append p before now ∙ or_from (list_any p before) (list_any p now) was here)

    pub words_some : at < 16 → list_any p (listed (in_word word (at * 64)) f 64 (at * 64)) ≡ true
        → true ≡ list_any p (listed (has words) f 1024 0)
    words_some low here =
        let before : List ℕ = listed (has words) f (at * 64) 0 in
        let now : List ℕ = listed (in_word word (at * 64)) f 64 (at * 64) in
        let whole : 1024 ≡ (at + 1) * 64 + (1024 - (at + 1) * 64) = omega arith in
        let rest : List ℕ = listed (has words) f (1024 - (at + 1) * 64) (0 + (at + 1) * 64) in
        let found : list_any p (listed (has words) f ((at + 1) * 64) 0) ≡ true =
        ap (list_any p) words_more
        ∙ (list_any-append p before now ∙ or_right (list_any p before) (list_any p now) here) in
        sym
        (ap (λ n. list_any p (listed (has words) f n 0)) whole
        ∙ (ap (list_any p) (listed-add (has words) f ((at + 1) * 64) (1024 - (at + 1) * 64) 0)
        ∙ (list_any-append p (listed (has words) f ((at + 1) * 64) 0) rest
        ∙ or_left (list_any p (listed (has words) f ((at + 1) * 64) 0)) (list_any p rest) found)))
