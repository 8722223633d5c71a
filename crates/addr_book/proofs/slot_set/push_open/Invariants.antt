use Rattle.std.proofs.Common.{◌≡◌, ℕ, ◌+◌, ◌-◌, ◌<◌, ◌==◌, ◌++◌, Bool}
use Rattle.std.specs.Int.{bit_at}
use Rattle.addr_book.specs.SlotSet.{open_slots}
use Rattle.addr_book.proofs.slot_set.push_open.Given as goal

abbrev pub invariant-loop-bit : goal.invariant-loop-bit
invariant-loop-bit l =
    (taken : ℕ → Bool) → ((bit : ℕ) → bit < 64 → taken (l.fn.first + bit)
    ≡ (bit_at l.fn.word bit == 1))
    → l.slots.items ++ open_slots taken (64 - l.bit) (l.fn.first + l.bit)
    ≡ l.fn.slots.items ++ open_slots taken 64 l.fn.first
