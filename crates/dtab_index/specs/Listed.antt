-- What stands at the places that a set has, in order.
use Rattle.std.specs.Prelude.{◌≡◌, ℕ, zero, suc, ◌+◌, ◌-◌, ◌<◌, ◌≤◌, ◌==◌, Bool, if◌then◌else◌}
use Rattle.std.specs.Prelude.{List, [], ◌++◌, Option, Some, None}
use Rattle.std.specs.Int.{bit_at}

-- what stands at the places that pass a test, of so many places from one on, the lowest first
unfoldable pub listed : (ℕ → Bool) → (ℕ → List ℕ) → ℕ → ℕ → List ℕ
listed test at_place zero from = []
listed test at_place (suc n) from =
    (if test from then at_place from else []) ++ listed test at_place n (from + 1)

-- whether a word has a place, where it tells of those from a first one on
abbrev pub in_word : ℕ → ℕ → ℕ → Bool
in_word word first place = bit_at word (place - first) == 1

-- the lowest bit of a word from one on, if it has one
abbrev pub IsNextBit : ℕ → ℕ → Option ℕ → Type 0
IsNextBit word from None = (bit : ℕ) → from ≤ bit → bit_at word bit ≡ 0
IsNextBit word from (Some next) =
    (from ≤ next) × (next < 64) × (bit_at word next ≡ 1)
    × ((bit : ℕ) → from ≤ bit → bit < next → bit_at word bit ≡ 0)
