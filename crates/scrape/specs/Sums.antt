-- The sums of what was read of the words.
use Rattle.std.specs.Prelude.{◌≡◌, ℕ, ◌+◌, ◌-◌, ◌%◌, ◌^◌, ◌<◌, ◌==◌, min, if◌then◌else◌, List, ◌++◌}
use Rattle.std.specs.Prelude.{length, slice_index_or, slice_set, sum_by}

-- so many words were read, each once and in their order, and these numbers were found in them
pub record IsReading (size : ℕ) (old new found : List (ℕ × ℕ)) : Type 0 where
  pub reads : new ≡ old ++ found
  pub all : length found ≡ size
  pub each : (at : ℕ) → at < length found → (slice_index_or found at (0, 0)).0 ≡ at

-- what was found in a word counts to its place
abbrev pub worth_at : ℕ → (ℕ × ℕ) → ℕ
worth_at place read = if read.0 % 64 == place then read.1 else 0

-- the sum at a place, up to the last value of a `u64`
abbrev pub summed : ℕ → List (ℕ × ℕ) → ℕ
summed place found = min (sum_by (worth_at place) found) (2 ^ 64 - 1)

abbrev pub AreSums : List ℕ → List (ℕ × ℕ) → Type 0
AreSums sums found =
    (place : ℕ) → place < 64 → slice_index_or sums place 0 ≡ summed place found

-- one number more at a place
abbrev pub with_sum : List ℕ → ℕ → ℕ → List ℕ
with_sum sums place found =
    slice_set sums place (min (slice_index_or sums place 0 + found) (2 ^ 64 - 1))
