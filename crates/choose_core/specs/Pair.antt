-- The two addresses of a live list that are compared.
use Rattle.std.specs.Prelude.{◌≡◌, ◌≢◌, ◌<◌, ◌≤◌, ℕ, ◌+◌, ◌-◌, ◌*◌, ◌/◌, ◌^◌, nat_lt, nat_le}
use Rattle.std.specs.Prelude.{if◌then◌else◌, List, [], ◌∷◌, length, map, sum, slice_index, remove}
use Rattle.addr_book.specs.declared.addr.Weighted.{Weighted}

abbrev pub weights_of : List Weighted → List ℕ
weights_of list = map (λ item. item.weight) list

-- the first place whose cumulative weight exceeds a number; the number of weights, where there is
-- none
abbrev pub place_over : List ℕ → ℕ → ℕ
place_over [] n = 0
place_over (w ∷ ws) n = if nat_lt n w then 0 else place_over ws (n - w) + 1

-- a number from 0 up to but not including a total, as far along as a word of 64 bits is among all
-- words
abbrev pub scaled : ℕ → ℕ → ℕ
scaled word total = word * total / 2 ^ 64

-- a place in a list of which one was left out, as a place in the whole list
abbrev pub place_in_whole : ℕ → ℕ → ℕ
place_in_whole out at = if nat_le out at then at + 1 else at

-- the place that the first word draws, by the weights
abbrev pub first_place : List ℕ → ℕ → ℕ
first_place ws w1 = place_over ws (scaled w1 (sum ws))

-- the place that the second word draws, by the weights without that of the first place
abbrev pub second_place : List ℕ → ℕ → ℕ → ℕ
second_place ws i w2 =
    place_in_whole i (place_over (remove ws i) (scaled w2 (sum ws - slice_index ws i)))

-- the places of the pair
abbrev pub pair_of : List Weighted → ℕ → ℕ → ℕ × ℕ
pair_of [] w1 w2 = (0, 0)
pair_of (item ∷ []) w1 w2 = (0, 0)
pair_of (item ∷ next ∷ rest) w1 w2 =
    let ws = weights_of (item ∷ next ∷ rest) in
    let i = first_place ws w1 in
    (i, second_place ws i w2)

-- the places are those of the pair, within the list, and apart where it has two
pub record IsPair (w1 w2 : ℕ) (places : ℕ × ℕ) (list : List Weighted) : Type 0 where
  pub pair : places ≡ pair_of list w1 w2
  pub first : places.0 < length list
  pub second : places.1 < length list
  pub apart : 2 ≤ length list → places.0 ≢ places.1
