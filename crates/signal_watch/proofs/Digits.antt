-- The number of some digits, one digit after the other.
use Rattle.std.proofs.Common.{◌≡◌, ℕ, ◌+◌, ◌*◌, ◌%◌, ◌^◌, List, [], ◌∷◌, refl, ap, Option}
use Rattle.std.proofs.Common.{Some, None, length, arith}
use Rattle.signal_watch.specs.Status.{behind_digit, digit_of, hex_number}

pub no_more : (n : ℕ) → hex_number n [] ≡ n
unfolding hex_number
no_more n = refl

-- a digit more
pub one_more : (n d b : ℕ) (bs : List ℕ) → digit_of b ≡ Some d
    → hex_number n (b ∷ bs) ≡ hex_number (n % 2 ^ 60 * 16 + d) bs
unfolding hex_number
one_more n d b bs is = ap (λ (o : Option ℕ). behind_digit n (λ more. hex_number more bs) o) is

-- a byte that is no digit
pub no_digit : (n b : ℕ) (bs : List ℕ) → digit_of b ≡ None → hex_number n (b ∷ bs) ≡ n
unfolding hex_number
no_digit n b bs is = ap (λ (o : Option ℕ). behind_digit n (λ more. hex_number more bs) o) is

-- no byte is left
pub at_end : (n : ℕ) (bs : List ℕ) → length bs ≡ 0 → hex_number n bs ≡ n
unfolding hex_number
at_end n [] none = refl
at_end n (b ∷ bs) none = let no : ⊥ = omega (arith, none) in absurd no

pub ruleset digits = (no_more, one_more, no_digit)
