-- The book: which services there are, which addresses each has, and which slot each address has.
use Rattle.std.specs.Prelude.{ℕ, ◌+◌, ◌==◌, Bool, not, if◌then◌else◌, zero, suc, refl, List, []}
use Rattle.std.specs.Prelude.{◌∷◌, length, filter}
use Rattle.std.specs.List.{list_any}
use Rattle.std.specs.Ordering.{nat_cmp}
use Rattle.std.specs.Cmp.Lexicographic.{slice_cmp}
use Rattle.std.specs.Coded.{Coded, code_by, coded×, coded_list, coded_ℕ}
use Rattle.std.specs.FinMap.{code, empty, FinMap, contains_key, insert, remove, retain_keys, len}
use Rattle.std.specs.FinMap.{values}
use Rattle.addr_book.specs.declared.addr.Addr.{Addr}
use Rattle.addr_book.specs.declared.addr.Weighted.{Weighted}
use Rattle.addr_book.specs.AddrList.{addr_cmp, addr_code, weighted_code, has_addr}

-- services by their names, each with its addresses and their weights
abbrev pub Services : Type 0
Services = FinMap (slice_cmp nat_cmp) (List Weighted)

abbrev pub services_code : Coded Services
services_code = code (coded_list coded_ℕ) (coded_list weighted_code)

-- slots by the addresses that have them
abbrev pub Slots : Type 0
Slots = FinMap addr_cmp ℕ

-- what a book has
pub record Contents : Type 0 where
  pub services : Services
  pub slots : Slots

abbrev pub contents_code : Coded Contents
contents_code =
    code_by (Services × Slots) (coded× services_code (code addr_code coded_ℕ))
    (λ c. (c.services, c.slots)) (λ p. record { services = p.0; slots = p.1 }) (λ _. refl)

-- no services
abbrev pub no_contents : Contents
no_contents = record { services = empty; slots = empty }

-- whether some service has an address
abbrev pub is_used : Services → Addr → Bool
is_used services addr = list_any (λ list. has_addr list addr) (values services)

-- the slots of the addresses that some service still has
abbrev pub staying : Slots → Services → Slots
staying slots services = retain_keys slots (is_used services)

-- the addresses of a list that have no slot yet, in the list's order
abbrev pub newcomers : Slots → List Weighted → List Weighted
newcomers slots list = filter (λ item. not (contains_key slots item.addr)) list

-- of so many slots from a number on, those that are not taken, the lowest first
abbrev pub free_slots : ℕ → ℕ → List ℕ → List ℕ
free_slots zero from taken = []
free_slots (suc n) from taken =
    if list_any (λ slot. slot == from) taken then free_slots n (from + 1) taken
    else from ∷ free_slots n (from + 1) taken

-- each address gets the slot at its place
abbrev pub assigned : Slots → List Weighted → List ℕ → Slots
assigned slots [] free = slots
assigned slots (a ∷ news) [] = slots
assigned slots (a ∷ news) (s ∷ free) = assigned (insert slots a.addr s) news free

-- the new addresses take the lowest free slots, in their order. There are enough below the number
-- of addresses that the book then has
abbrev pub with_newcomers : Slots → List Weighted → Slots
with_newcomers slots news =
    assigned slots news (free_slots (len slots + length news) 0 (values slots))

-- the contents with this service in the place of its like: addresses that stay keep their slots,
-- slots of those that left are free again, and new addresses take the lowest free ones in the
-- list's order
abbrev pub after_set : Contents → List ℕ → List Weighted → Contents
after_set book service list =
    let services = insert book.services service list in
    let stay = staying book.slots services in
    record { services = services; slots = with_newcomers stay (newcomers stay list) }

-- how many distinct addresses there are then: those that stay, and the new ones
abbrev pub addrs_after_set : Contents → List ℕ → List Weighted → ℕ
addrs_after_set book service list =
    let stay = staying book.slots (insert book.services service list) in
    len stay + length (newcomers stay list)

-- the contents without this service
abbrev pub after_drop : Contents → List ℕ → Contents
after_drop book service =
    let services = remove book.services service in
    record { services = services; slots = staying book.slots services }
