-- An address that stays keeps its slot.
use Rattle.std.proofs.Common.{◌≡◌, ℕ, Bool, true, false, List, [], ◌∷◌, refl, sym, ap, ◌∙◌, Some}
use Rattle.std.proofs.Common.{None, cond}
use Rattle.std.specs.Prelude.{not, ◌||◌, is_some}
use Rattle.std.specs.FinMap.{get, insert, contains_key, get-insert}
use Rattle.addr_book.specs.declared.addr.Addr.{Addr}
use Rattle.addr_book.specs.declared.addr.Weighted.{Weighted}
use Rattle.addr_book.specs.AddrList.{same_addr, has_addr}
use Rattle.addr_book.specs.Book.{Contents, Services, Slots, is_used, staying, newcomers, assigned}
use Rattle.addr_book.specs.Book.{after_set, after_drop}
use Rattle.addr_book.specs.Laws.{KeepsSlots, SlotsStay}
use Rattle.addr_book.proofs.AddrLists.{addr_total}
use Rattle.addr_book.proofs.SlotSteps.{same_is}
use Rattle.addr_book.proofs.Seating.{get-staying}

first_of_or : (a b : Bool) → (a || b) ≡ false → a ≡ false
first_of_or true b e = e
first_of_or false b e = refl

second_of_or : (a b : Bool) → (a || b) ≡ false → b ≡ false
second_of_or true b e = cc
second_of_or false b e = e

-- the new addresses leave the slots of others as they are
get-assigned : (slots : Slots) (news : List Weighted) (free : List ℕ) (a : Addr)
    → has_addr news a ≡ false → get (assigned slots news free) a ≡ get slots a
get-assigned slots [] free a none = refl
get-assigned slots (n ∷ news) [] a none = refl
get-assigned slots (n ∷ news) (s ∷ free) a none =
    get-assigned (insert slots n.addr s) news free a
    (second_of_or (same_addr a n.addr) (has_addr news a) none)
    ∙ (get-insert addr_total slots n.addr s a
    ∙ ap (λ b. cond b (Some s) (get slots a))
    (first_of_or (same_addr a n.addr) (has_addr news a) none))

-- an address that has a slot is no newcomer
no_newcomer : (slots : Slots) (a : Addr) → contains_key slots a ≡ true → (list : List Weighted)
    → has_addr (newcomers slots list) a ≡ false
no_newcomer slots a has [] = refl
no_newcomer slots a has (x ∷ xs) = go (contains_key slots x.addr) refl (no_newcomer slots a has xs)
  where
    go : (b : Bool) → contains_key slots x.addr ≡ b → has_addr (newcomers slots xs) a ≡ false
        → has_addr (cond (not b) (x ∷ newcomers slots xs) (newcomers slots xs)) a ≡ false
    go true c rest = rest
    go false c rest = other (same_addr a x.addr) refl
      where
        other : (b : Bool) → same_addr a x.addr ≡ b → (b || has_addr (newcomers slots xs) a) ≡ false
        other false s = rest
        other true s = let no = sym has ∙ (ap (contains_key slots) (same_is a x.addr s) ∙ c) in cc

stays : (slots : Slots) (services : Services) (a : Addr) (slot : ℕ) → get slots a ≡ Some slot
    → is_used services a ≡ true → get (staying slots services) a ≡ Some slot
stays slots services a slot is used = get-staying slots services a
    ∙ (ap (λ b. cond b (get slots a) None) used ∙ is)

set_keeps : (book : Contents) (service : List ℕ) (list : List Weighted)
    → KeepsSlots book (after_set book service list)
set_keeps book service list a slot is used =
    let next = after_set book service list in
    let kept = stays book.slots next.services a slot is used in
    get-assigned _ _ _ a (no_newcomer (staying book.slots next.services) a (ap is_some kept) list)
    ∙ kept

pub slots_stay : SlotsStay
slots_stay book service = (
  set_keeps book service,
  λ a slot is used. stays book.slots
      (after_drop book service).services a slot is used,
)
