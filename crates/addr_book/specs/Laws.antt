-- What holds of the slots of all books.
use Rattle.std.specs.Prelude.{◌≡◌, ℕ, true, List, Some}
use Rattle.std.specs.FinMap.{get}
use Rattle.addr_book.specs.declared.addr.Addr.{Addr}
use Rattle.addr_book.specs.declared.addr.Weighted.{Weighted}
use Rattle.addr_book.specs.Book.{Contents, is_used, after_set, after_drop}

-- no two addresses share a slot
abbrev pub HasOwnSlots : Contents → Type 0
HasOwnSlots book =
    (one other : Addr) (slot : ℕ) → get book.slots one ≡ Some slot
    → get book.slots other ≡ Some slot → one ≡ other

-- an address that some service still has after a change keeps its slot
abbrev pub KeepsSlots : Contents → Contents → Type 0
KeepsSlots book next =
    (addr : Addr) (slot : ℕ) → get book.slots addr ≡ Some slot → is_used next.services addr ≡ true
    → get next.slots addr ≡ Some slot

abbrev pub SlotsStay : Type 0
SlotsStay =
    (book : Contents) (service : List ℕ)
    → ((list : List Weighted) → KeepsSlots book (after_set book service list))
    × KeepsSlots book (after_drop book service)
