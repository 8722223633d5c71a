-- Numbers in decimal digits.
use Rattle.std.specs.Prelude.{ℕ, ◌+◌, ◌-◌, ◌*◌, ◌^◌, ◌==◌, nat_le, if◌then◌else◌, List, [], ◌∷◌}
use Rattle.std.specs.Prelude.{Option, Some, None}
use Rattle.std.specs.Char.{is_ascii_digit}

-- the number of some digits, behind those that were read
abbrev pub digits_behind : ℕ → List ℕ → Option ℕ
digits_behind n [] = Some n
digits_behind n (b ∷ bs) = if is_ascii_digit b then digits_behind (10 * n + (b - 48)) bs else None

-- a number in decimal digits, with no leading zero
abbrev pub number_value : List ℕ → Option ℕ
number_value [] = None
number_value (b ∷ []) = digits_behind 0 (b ∷ [])
number_value (b ∷ c ∷ bs) = if b == 48 then None else digits_behind 0 (b ∷ c ∷ bs)

-- the value, where it is no more than a limit
abbrev pub at_most : ℕ → Option ℕ → Option ℕ
at_most most None = None
at_most most (Some n) = if nat_le n most then Some n else None

-- a number of 64 bits
abbrev pub number_of : List ℕ → Option ℕ
number_of text = at_most (2 ^ 64 - 1) (number_value text)
