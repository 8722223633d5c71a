-- Why a change of a book is refused.
use Rattle.std.specs.Prelude.{ℕ, Bool, ◌&&◌, not, nat_le, nat_lt, if◌then◌else◌, List, Option, Some}
use Rattle.std.specs.Prelude.{None}
use Rattle.std.specs.FinMap.{contains_key, len}
use Rattle.addr_book.specs.declared.addr.Weighted.{Weighted}
use Rattle.addr_book.specs.declared.fault.BookFault.{BookFault}
use Rattle.addr_book.specs.declared.fault.BookFault.TheVariants.{BookFull, TooManyServices, Missing}
use Rattle.addr_book.specs.Book.{Contents, addrs_after_set}

-- the service is new, and 4,096 are there
abbrev pub has_no_room : Contents → List ℕ → Bool
has_no_room book service =
    not (contains_key book.services service) && nat_le 4096 (len book.services)

-- why a service may not be set, if it may not: too many services come before too many addresses
abbrev pub set_refusal : Contents → List ℕ → List Weighted → Option BookFault
set_refusal book service list =
    if has_no_room book service then Some TooManyServices else (
    if nat_lt 8192 (addrs_after_set book service list)
    then Some (BookFull (addrs_after_set book service list)) else None)

-- why a service may not be dropped, if it may not: it is not there
abbrev pub drop_refusal : Contents → List ℕ → Option BookFault
drop_refusal book service = if contains_key book.services service then None else Some Missing
