-- The weight that a text stands for, computed byte by byte. A law says that these are the weights
-- of the grammar.
use Rattle.std.specs.Prelude.{◌≡◌, ◌↔◌, ℕ, ◌+◌, ◌-◌, ◌*◌, ◌/◌, ◌==◌, nat_lt, if◌then◌else◌, List}
use Rattle.std.specs.Prelude.{[], ◌∷◌, Option, Some, None}
use Rattle.name_tree.specs.Value.{one_whole}
use Rattle.name_tree.specs.Grammar.{is_digit, SpellsWeight}

-- behind a point and decimals, with what the next decimal is worth
abbrev pub decimals_from : ℕ → ℕ → List ℕ → Option ℕ
decimals_from n unit [] = Some n
decimals_from n unit (d ∷ ds) =
    if is_digit d then decimals_from (n + (d - 48) * unit) (unit / 10) ds else None

-- behind a point: there is a decimal or more
abbrev pub point_from : ℕ → List ℕ → Option ℕ
point_from n [] = None
point_from n (d ∷ ds) = if is_digit d then decimals_from (n + (d - 48) * 100000) 10000 ds else None

-- behind so many digits, which stand for the number: at most six, and not none at the end
abbrev pub whole_from : ℕ → ℕ → List ℕ → Option ℕ
whole_from n k [] = if k == 0 then None else Some (n * one_whole)
whole_from n k (b ∷ bs) =
    if b == 46 then point_from (n * one_whole) bs else
    (if is_digit b then (if nat_lt k 6 then whole_from (10 * n + (b - 48)) (k + 1) bs else None)
    else None)

abbrev pub weight_of : List ℕ → Option ℕ
weight_of text = whole_from 0 0 text

-- the weights that are computed are those of the grammar, and no others
abbrev pub ComputesWeights : Type 0
ComputesWeights = (text : List ℕ) (n : ℕ) → (weight_of text ≡ Some n) ↔ SpellsWeight text n
