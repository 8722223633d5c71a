-- Counts of the services that have an address, and what is always true of a book.
use Rattle.std.specs.Prelude.{◌≡◌, ℕ, ◌+◌, ◌<◌, ◌≤◌, List, [], ◌∷◌, if◌then◌else◌, Some, unwrap_or}
use Rattle.std.specs.Prelude.{Option, None}
use Rattle.std.specs.FinMap.{FinMap, get, contains_key, len, values}
use Rattle.addr_book.specs.declared.addr.Addr.{Addr}
use Rattle.addr_book.specs.declared.addr.Weighted.{Weighted}
use Rattle.addr_book.specs.AddrList.{addr_cmp, has_addr}
use Rattle.addr_book.specs.Book.{Services, Slots, is_used}

-- the count of an address, 0 where there is none
abbrev pub count_at : FinMap addr_cmp ℕ → Addr → ℕ
count_at uses addr = unwrap_or (get uses addr) 0

-- the addresses of a service, none where it is not there
abbrev pub list_of : Option (List Weighted) → List Weighted
list_of None = []
list_of (Some list) = list

-- how many of some lists have an address
abbrev pub having : List (List Weighted) → Addr → ℕ
having [] addr = 0
having (list ∷ lists) addr = (if has_addr list addr then 1 else 0) + having lists addr

-- the limits hold, exactly the addresses of the services have slots, no two the same, and each
-- address is counted for each service that has it
pub record IsSound (services : Services) (slots : Slots) (uses : FinMap addr_cmp ℕ) : Type 0 where
  pub few : len services ≤ 4096
  pub room : len slots ≤ 8192
  pub seated : (addr : Addr) → contains_key slots addr ≡ is_used services addr
  pub below : (addr : Addr) (slot : ℕ) → get slots addr ≡ Some slot → slot < 8192
  pub apart : (one other : Addr) (slot : ℕ) → get slots one ≡ Some slot
      → get slots other ≡ Some slot → one ≡ other
  pub counted : (addr : Addr) → count_at uses addr ≡ having (values services) addr
