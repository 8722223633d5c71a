-- A set of slots, and the lowest that are not in it.
use Rattle.std.specs.Prelude.{◌≡◌, ℕ, zero, suc, ◌+◌, ◌/◌, ◌%◌, ◌≤◌, ◌==◌, Bool, if◌then◌else◌}
use Rattle.std.specs.Prelude.{List, [], ◌∷◌, length, slice_index, ◌⊎◌}
use Rattle.std.specs.Int.{bit_at}

-- whether a slot is in the set: its bit in the words
abbrev pub has_slot : List ℕ → ℕ → Bool
has_slot words slot = bit_at (slice_index words (slot / 64)) (slot % 64) == 1

-- of so many slots from a number on, those that do not pass the test, the lowest first
unfoldable pub open_slots : (ℕ → Bool) → ℕ → ℕ → List ℕ
open_slots taken zero from = []
open_slots taken (suc n) from =
    if taken from then open_slots taken n (from + 1) else from ∷ open_slots taken n (from + 1)

-- the lowest open slots: at least so many, or all below 8,192
pub record AreLowest (taken : ℕ → Bool) (count : ℕ) (slots : List ℕ) : Type 0 where
  pub end : ℕ
  pub below : end ≤ 8192
  pub lowest : slots ≡ open_slots taken end 0
  pub enough : (count ≤ length slots) ⊎ (end ≡ 8192)
