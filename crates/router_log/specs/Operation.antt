-- What a router's callers publish.
use Rattle.std.specs.Prelude.{ℕ, Bool, true, false, List, length, filter, not}
use Rattle.machine.specs.Values.{ChangeValue}
use Rattle.bind_cache.specs.Kept.{Kept}

-- an accepted change, or a delegation that is kept. Each has the number of its caller, and its own
-- number among that caller's changes, or among that caller's kept delegations
pub data Operation : Type 0 where
  changed : ℕ → ℕ → ChangeValue → Operation
  kept : ℕ → ℕ → Kept → Operation

abbrev pub caller_of : Operation → ℕ
caller_of (changed caller serial change) = caller
caller_of (kept caller serial k) = caller

abbrev pub serial_of : Operation → ℕ
serial_of (changed caller serial change) = serial
serial_of (kept caller serial k) = serial

abbrev pub is_change : Operation → Bool
is_change (changed caller serial change) = true
is_change (kept caller serial k) = false

-- the history: the changes that were published, in order
abbrev pub history : List Operation → List Operation
history ops = filter is_change ops

-- how many changes were published
abbrev pub place_of : List Operation → ℕ
place_of ops = length (history ops)

-- how many delegations were
abbrev pub kept_count : List Operation → ℕ
kept_count ops = length (filter (λ op. not (is_change op)) ops)
