-- What is always true of a map of slots.
use Rattle.std.specs.Prelude.{◌≡◌, ℕ, ◌<◌, ◌==◌, List, Some}
use Rattle.std.specs.List.{list_any}
use Rattle.std.specs.FinMap.{get, len, values}
use Rattle.addr_book.specs.declared.addr.Addr.{Addr}
use Rattle.addr_book.specs.Book.{Slots}
use Rattle.addr_book.specs.SlotSet.{has_slot}

-- they are counted, below 8,192, no two the same, and just those that are taken are marked so
pub record IsSlotMap (slots : Slots) (taken : List ℕ) (count : ℕ) : Type 0 where
  pub counted : count ≡ len slots
  pub below : (addr : Addr) (slot : ℕ) → get slots addr ≡ Some slot → slot < 8192
  pub apart : (one other : Addr) (slot : ℕ) → get slots one ≡ Some slot
      → get slots other ≡ Some slot → one ≡ other
  pub marked : (slot : ℕ) → has_slot taken slot ≡ list_any (λ s. s == slot) (values slots)
