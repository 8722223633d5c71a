-- What is left to write of a text that is written piece by piece.
use Rattle.std.proofs.Common.{◌≡◌, ℕ, zero, suc, ◌+◌, ◌<◌, List, [], ◌∷◌, length, drop, get_or}
use Rattle.std.proofs.Common.{Some, slice_get, arith, ap}
use Rattle.std.specs.List.{flat_map}
use Rattle.std.proofs.lemmas.List.{length-append}

module _ {A : Type 0} (f : A → List ℕ) where
  -- the next piece, and what comes behind it
  pub piece_left : (xs : List A) (k : ℕ) (x : A) → slice_get xs k ≡ Some x
      → length (flat_map f (drop k xs)) ≡ length (f x) + length (flat_map f (drop (k + 1) xs))
  piece_left [] k x at = absurd cc
  piece_left (y ∷ xs) zero x at = let e : y ≡ x = cc at in
      omega (arith, length-append (f y) (flat_map f xs), ap (λ z. length (f z)) e)
  piece_left (y ∷ xs) (suc k) x at = let e : suc k + 1 ≡ suc (k + 1) = omega arith in
      rw e (piece_left xs k x at)

  pub next_left : (xs : List A) (k : ℕ) (d : A) → k < length xs
      → length (flat_map f (drop k xs)) ≡ length (f (get_or xs k d))
      + length (flat_map f (drop (k + 1) xs))
  next_left [] k d lt = absurd (omega (arith, lt))
  next_left (y ∷ xs) zero d lt = length-append (f y) (flat_map f xs)
  next_left (y ∷ xs) (suc k) d lt = let e : suc k + 1 ≡ suc (k + 1) = omega arith in
      rw e (next_left xs k d (omega (arith, lt)))
