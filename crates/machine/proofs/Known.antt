-- Marked addresses are those of services, so there is room for each mark.
use Rattle.std.proofs.Common.{◌≡◌, ◌<◌, Bool, true, false, Option, Some, None, cond, refl, sym, ap}
use Rattle.std.proofs.Common.{◌∙◌, arith}
use Rattle.std.specs.Prelude.{is_some, ◌==◌}
use Rattle.std.specs.Ordering.{eq_by_cmp}
use Rattle.std.specs.FinMap.{get, contains_key, insert, remove, retain_keys, len, get-empty}
use Rattle.std.specs.FinMap.{get-insert, get-remove, get-retain_keys}
use Rattle.addr_book.specs.declared.addr.Addr.{Addr}
use Rattle.addr_book.specs.AddrList.{addr_cmp}
use Rattle.addr_book.specs.Book.{Contents as Book, Services, is_used}
use Rattle.addr_book.specs.Seated.{IsSeated}
use Rattle.addr_book.proofs.AddrLists.{addr_total}
use Rattle.addr_book.proofs.AddrMaps.{addr_only}
use Rattle.addr_book.proofs.SlotSteps.{same_is}
use Rattle.choose_core.specs.declared.mark.Mark.{Mark}
use Rattle.choose_core.specs.Marks.{MarkMap, no_marks, with_mark}
use Rattle.machine.proofs.Within.{IsWithin, within_removed, len_without, len_within}

-- each marked address is one of a service
abbrev pub AreKnown : MarkMap → Services → Type 0
AreKnown marks services = (addr : Addr) → contains_key marks addr ≡ true
    → is_used services addr ≡ true

pub known_nothing : (services : Services) → AreKnown no_marks services
known_nothing services a has = let no = sym has ∙ ap is_some (get-empty {X = Mark} addr_cmp a) in
    absurd (cc)

passed : (b : Bool) (old : Option Mark) → is_some (cond b old None) ≡ true → b ≡ true
passed true old has = refl
passed false old has = has

pub known_kept : (marks : MarkMap) (services : Services)
    → AreKnown (retain_keys marks (is_used services)) services
known_kept marks services a has =
    passed (is_used services a) (get marks a)
    (sym (ap is_some (get-retain_keys marks (is_used services) a
    (λ x tied. ap (is_used services) (sym (addr_only a x tied))))) ∙ has)

with_new : (b : Bool) (mark : Mark) (old : Option Mark) (used : Bool) → (b ≡ true → used ≡ true)
    → (is_some old ≡ true → used ≡ true) → is_some (cond b (Some mark) old) ≡ true → used ≡ true
with_new true mark old used here others has = here refl
with_new false mark old used here others has = others has

less_one : (b : Bool) (old : Option Mark) (used : Bool) → (is_some old ≡ true → used ≡ true)
    → is_some (cond b None old) ≡ true → used ≡ true
less_one true old used others has = absurd (cc)
less_one false old used others has = others has

pub known_marked : (marks : MarkMap) (services : Services) (addr : Addr) (mark : Mark)
    → AreKnown marks services → is_used services addr ≡ true
    → AreKnown (with_mark marks addr mark) services
known_marked marks services addr mark known used a = by_count (mark.count == 0)
  where
    by_count : (none : Bool) → contains_key
        (cond none (remove marks addr) (insert marks addr mark)) a ≡ true
        → is_used services a ≡ true
    by_count true has = less_one (eq_by_cmp addr_cmp a addr) (get marks a) (is_used services a)
        (known a) (sym (ap is_some (get-remove addr_total marks addr a)) ∙ has)
    by_count false has =
        with_new (eq_by_cmp addr_cmp a addr) mark (get marks a) (is_used services a)
        (λ same. ap (is_used services) (same_is a addr same) ∙ used) (known a)
        (sym (ap is_some (get-insert addr_total marks addr mark a)) ∙ has)

-- there is room for the mark of an address that some service has
pub room_for : (book : Book) (marks : MarkMap) (addr : Addr) → IsSeated book
    → AreKnown marks book.services → is_used book.services addr ≡ true
    → len (remove marks addr) < 8192
room_for book marks addr seated known used =
    let within : IsWithin addr_total marks book.slots = λ q has. seated.seated q ∙ known q has in
    let here = seated.seated addr ∙ used in
    let fewer = len_within addr_total (len (remove marks addr)) (remove marks addr)
    (remove book.slots addr) refl (within_removed addr_total marks book.slots addr within) in
    omega (arith, fewer, len_without addr_total book.slots addr here, seated.room)
