-- One word more was read.
use Rattle.std.proofs.Common.{◌≡◌, ◌≢◌, ℕ, zero, suc, ◌+◌, ◌-◌, ◌%◌, ◌^◌, ◌<◌, ◌==◌, min, true}
use Rattle.std.proofs.Common.{false, List, []}
use Rattle.std.proofs.Common.{◌∷◌, ◌++◌, length, refl, sym, ap, ◌∙◌, subst, ⊎_elim, arith}
use Rattle.std.proofs.Common.{slice_index_or}
use Rattle.std.proofs.Common.{length-set, get_or-set_same, get_or-set_other, append_assoc}
use Rattle.std.proofs.Common.{append-nil}
use Rattle.std.specs.Prelude.{sum_by}
use Rattle.std.proofs.lemmas.Bool.{cases_eq}
use Rattle.std.proofs.lemmas.Bool.Decides.{nat_tests}
use Rattle.std.proofs.lemmas.List.Sums.{sum_by_push}
use Rattle.std.proofs.lemmas.List.{length_push}
use Rattle.scrape.specs.Sums.{AreSums, IsReading, summed, with_sum, worth_at}

-- a sum up to the last value, and one number more
capped : (old sum more : ℕ) → old ≡ min sum (2 ^ 64 - 1)
    → min (old + more) (2 ^ 64 - 1) ≡ min (sum + more) (2 ^ 64 - 1)
capped old sum more is = omega (arith, is)

capped_none : (sum : ℕ) → min sum (2 ^ 64 - 1) ≡ min (sum + 0) (2 ^ 64 - 1)
capped_none sum = omega arith

-- the sum at a place, with what was found in one word more
summed_more : (place : ℕ) (found : List (ℕ × ℕ)) (read : ℕ × ℕ)
    → summed place (found ++ read ∷ [])
    ≡ min (sum_by (worth_at place) found + worth_at place read) (2 ^ 64 - 1)
summed_more place found read =
    ap (λ (n : ℕ). min n (2 ^ 64 - 1)) (sum_by_push (worth_at place) found read)

pub long_more : (sums : List ℕ) (place value : ℕ) → length sums ≡ 64
    → length (with_sum sums place value) ≡ 64
long_more sums place value long =
    omega (
      arith,
      long,
      length-set sums place (min (slice_index_or sums place 0 + value) (2 ^ 64 - 1)),
    )

pub sums_more : (sums : List ℕ) (found : List (ℕ × ℕ)) (word value : ℕ) → length sums ≡ 64
    → word % 64 < 64 → AreSums sums found
    → AreSums (with_sum sums (word % 64) value) (found ++ (word, value) ∷ [])
sums_more sums found word value long within are place few = ⊎_elim
    (λ (e : place ≡ word % 64).
    let test : (word % 64 == place) ≡ true = grind (arith, nat_tests) in
    let one : worth_at place (word, value) ≡ value = rw test refl in
    let here : slice_index_or sums (word % 64) 0 ≡ summed (word % 64) found =
    are (word % 64) within in
    let stored : slice_index_or (with_sum sums (word % 64) value) (word % 64) 0
    ≡ min (slice_index_or sums (word % 64) 0 + value) (2 ^ 64 - 1) =
    get_or-set_same sums (word % 64) (min (slice_index_or sums (word % 64) 0 + value) (2 ^ 64 - 1))
    0 (omega (arith, long, within)) in
    subst (λ (p : ℕ). slice_index_or (with_sum sums (word % 64) value) p 0
    ≡ summed place (found ++ (word, value) ∷ [])) (sym e)
    (stored
    ∙ (capped (slice_index_or sums (word % 64) 0) (sum_by (worth_at (word % 64)) found) value here
    ∙ (ap (λ (p : ℕ). min (sum_by (worth_at p) found + value) (2 ^ 64 - 1)) (sym e)
    ∙ (ap (λ (n : ℕ). min (sum_by (worth_at place) found + n) (2 ^ 64 - 1)) (sym one)
    ∙ sym (summed_more place found (word, value)))))))
    (λ (e : place ≢ word % 64).
    let test : (word % 64 == place) ≡ false = grind (arith, nat_tests) in
    let none : worth_at place (word, value) ≡ 0 = rw test refl in
    let same : slice_index_or (with_sum sums (word % 64) value) place 0
    ≡ slice_index_or sums place 0 =
    get_or-set_other sums (word % 64) place
    (min (slice_index_or sums (word % 64) 0 + value) (2 ^ 64 - 1)) 0 e in
    same
    ∙ (are place few
    ∙ (capped_none (sum_by (worth_at place) found)
    ∙ (ap (λ (n : ℕ). min (sum_by (worth_at place) found + n) (2 ^ 64 - 1)) (sym none)
    ∙ sym (summed_more place found (word, value))))))
    (cases_eq place (word % 64))

-- ---- the words that were read

each_push : (k : ℕ) (found : List (ℕ × ℕ)) (read : ℕ × ℕ)
    → ((at : ℕ) → at < length found → (slice_index_or found at (0, 0)).0 ≡ k + at)
    → read.0 ≡ k + length found → (at : ℕ) → at < length (found ++ read ∷ [])
    → (slice_index_or (found ++ read ∷ []) at (0, 0)).0 ≡ k + at
each_push k [] read each is zero less = is
each_push k [] read each is (suc at) less = absurd (omega arith)
each_push k (x ∷ xs) read each is zero less = each 0 (omega arith)
each_push k (x ∷ xs) read each is (suc at) less =
    let rest : (n : ℕ) → n < length xs → (slice_index_or xs n (0, 0)).0 ≡ (k + 1) + n =
    λ n h. (let one = each (suc n) (omega (arith, h)) in omega (arith, one)) in
    let last : read.0 ≡ (k + 1) + length xs = omega (arith, is) in
    let here = each_push (k + 1) xs read rest last at (omega (arith, less)) in omega (arith, here)

pub read_more : (old mid new found : List (ℕ × ℕ)) (word value : ℕ) → IsReading word old mid found
    → new ≡ mid ++ (word, value) ∷ []
    → IsReading (word + 1) old new (found ++ (word, value) ∷ [])
read_more old mid new found word value so_far is = record {
  reads =
      is
      ∙ (ap (λ (rs : List (ℕ × ℕ)). rs ++ (word, value) ∷ []) so_far.reads
      ∙ append_assoc old found ((word, value) ∷ []));
  all = omega (arith, length_push found (word, value), so_far.all);
  each = λ at less.
      (let here = each_push 0 found (word, value)
      (λ n h. (let one = so_far.each n h in omega (arith, one))) (omega (arith, so_far.all)) at less
      in omega (arith, here));
}

pub read_none : (old : List (ℕ × ℕ)) → IsReading 0 old old []
read_none old = record {
  reads = sym (append-nil old);
  all = refl;
  each = λ at less. absurd (omega (arith, less));
}
