-- What weights come to where all are equal.
use Rattle.std.specs.Prelude.{◌≡◌, ℕ, zero, suc, ◌*◌, ◌/◌, ◌^◌, ◌<◌, ◌≤◌, ◌↔◌, List, length, All}
use Rattle.addr_book.specs.declared.addr.Weighted.{Weighted}
use Rattle.choose_core.specs.Pair.{pair_of, place_in_whole}

-- the pair of so many addresses without weights: each word draws a place by itself, the second of
-- one place fewer
abbrev pub plain_pair : ℕ → ℕ → ℕ → ℕ × ℕ
plain_pair zero w1 w2 = (0, 0)
plain_pair (suc zero) w1 w2 = (0, 0)
plain_pair (suc (suc n)) w1 w2 =
    let i = w1 * suc (suc n) / 2 ^ 64 in
    (i, place_in_whole i (w2 * suc n / 2 ^ 64))

-- addresses of equal weights are drawn as addresses without weights
abbrev pub EqualWeightsArePlain : Type 0
EqualWeightsArePlain =
    (list : List Weighted) (weight w1 w2 : ℕ) → 1 ≤ weight → All (λ item. item.weight ≡ weight) list
    → w1 < 2 ^ 64 → w2 < 2 ^ 64
    → pair_of list w1 w2 ≡ plain_pair (length list) w1 w2

-- loads of addresses of equal weights are compared as they are
abbrev pub EqualWeightsCompareLoads : Type 0
EqualWeightsCompareLoads =
    (first second weight : ℕ) → 1 ≤ weight → (first * weight ≤ second * weight) ↔ (first ≤ second)
