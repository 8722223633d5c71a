-- The counts that the outside tells, and why a call on it fails.
use Rattle.std.specs.Prelude.{◌≡◌, ℕ, ◌+◌, ◌-◌, ◌^◌, ◌<◌, ◌≤◌, min, Result, Ok, IfOk, OnOk, OnErr}

-- one more, unless the count stands at the last value of a `u64`
abbrev pub raised : ℕ → ℕ
raised count = min (count + 1) (2 ^ 64 - 1)

-- the sum of two counts, unless it is more than the last value of a `u64`
abbrev pub added : ℕ → ℕ → ℕ
added count more = min (count + more) (2 ^ 64 - 1)

-- the count rose, or stands at its last value
abbrev pub Rose : ℕ → ℕ → Type 0
Rose before now = raised before ≤ now

-- a count of faults never falls: a call that fails raises it by one, and a good one leaves it as it
-- was
pub record HasCause {T E : Type 0} (before now : ℕ) (result : Result T E) : Type 0 where
  pub later : before ≤ now
  pub failed : OnErr result (Rose before now)
  pub by_one : OnErr result (now ≡ raised before)
  pub kept : OnOk result (now ≡ before)

-- the number of reads that gave the end rises by one at each, a read of nothing into some room, and
-- at nothing else
pub record CountsEnds {E : Type 0} (before now : ℕ) (result : Result ℕ E) (room : ℕ) : Type 0 where
  pub later : before ≤ now
  pub ended : result ≡ Ok 0 → 0 < room → now ≡ raised before
  pub given : IfOk result (λ n. 0 < n → now ≡ before)
  pub failed : OnErr result (now ≡ before)
  pub no_room : room ≡ 0 → now ≡ before

-- a read into no room, and a write of no bytes, moves nothing and raises no count
pub record MovesNothing {E : Type 0} (before now : ℕ) (result : Result ℕ E) (room : ℕ) : Type 0
  where
    pub gives : room ≡ 0 → result ≡ Ok 0
    pub count : room ≡ 0 → now ≡ before
