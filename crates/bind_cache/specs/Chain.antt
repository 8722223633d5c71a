-- How hashes are chained, the newest first.
use Rattle.std.specs.Prelude.{◌≡◌, ◌≢◌, ℕ, ◌-◌, ◌%◌, ◌<◌, List, Option, Some, None, slice_index}
use Rattle.std.specs.Prelude.{nat_lt, if◌then◌else◌}

-- the number of the first hash, and the hashes in order
pub record Chained : Type 0 where
  pub first : ℕ
  pub hashes : List ℕ

-- how many buckets there are
abbrev pub buckets : ℕ
buckets = 2048

abbrev pub bucket_of : ℕ → ℕ
bucket_of hash = hash % buckets

-- the last before a place that is in the bucket of a hash: none, or this one
abbrev pub IsLastBefore : List ℕ → ℕ → ℕ → Option ℕ → Type 0
IsLastBefore hashes hash top None =
    (k : ℕ) → k < top → bucket_of (slice_index hashes k) ≢ bucket_of hash
IsLastBefore hashes hash top (Some at) =
    (at < top) × (bucket_of (slice_index hashes at) ≡ bucket_of hash)
    × ((k : ℕ) → at < k → k < top → bucket_of (slice_index hashes k) ≢ bucket_of hash)

-- the place of a number, where those of a list are numbered from the first on. It is none where the
-- number is less than the first
abbrev pub place_from : ℕ → ℕ → Option ℕ
place_from first number = if nat_lt number first then None else Some (number - first)
