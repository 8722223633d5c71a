-- What bounds of the code say, in terms of the lists that they hold.
use Rattle.std.proofs.Common.{◌≡◌, ℕ, zero, suc, ◌+◌, ◌<◌, ◌≤◌, List, [], ◌∷◌, length, map, get_or}
use Rattle.std.proofs.Common.{Vec, Global, refl, sym, ap, subst, ◌∙◌, arith}
use mathlib.Core.Former.{Count}
use Rattle.addr_book.specs.declared.bound.Bound.{Bound, Many}
use Rattle.addr_book.specs.declared.bound.Bound.TheBlock.{shape-the_row-BoundItem-0}
use Rattle.addr_book.specs.declared.bound.Bound.TheBlock.{hidden-the_row-BoundItem-0}
use Rattle.addr_book.specs.declared.bound.BoundItem.{BoundItem}
use Rattle.addr_book.specs.declared.bound.BoundList.{BoundList, BoundList', out-BoundList}
use Rattle.addr_book.specs.declared.bound.BoundList.{roll-BoundList, rolls-BoundList'}
use Rattle.addr_book.specs.declared.bound.BoundList.{roll-out-BoundList, Row_of-BoundItem}
use Rattle.addr_book.specs.declared.bound.BoundList.{end_of-BoundItem, more_of-BoundItem}
use Rattle.addr_book.specs.declared.bound.BoundList.{items-the_row-BoundItem}
use Rattle.addr_book.specs.declared.bound.BoundList.{items_hidden-the_row-BoundItem-0}
use Rattle.addr_book.specs.Found.{Found, one, many, FoundList, no_member, member, members}
use Rattle.addr_book.specs.Bound.{found_of, members_of, row_members, item_found, listed_items}

row_is : (n : Count) (row : Row_of-BoundItem n) → row_members row
    ≡ listed_items (items-the_row-BoundItem n row)
row_is n end_of-BoundItem = refl
row_is n (more_of-BoundItem weight b ms) = ap (member weight (found_of b)) (row_is _ ms)

abbrev row_in : BoundList → (n : Count) × Row_of-BoundItem n
row_in (BoundList' _ row) = (_, row)

members_of-row : (ms : BoundList) → members_of ms ≡ row_members (row_in ms).1
members_of-row (BoundList' shape row) = refl

-- a list of bound branches says what those branches say, in its order
pub members_of-roll : (items : Vec BoundItem Global)
    → members_of (roll-BoundList (record { items = items })) ≡ listed_items items.items
members_of-roll items =
    let row = hidden-the_row-BoundItem-0 items in
    rw rolls-BoundList' (members_of-row (BoundList' (shape-the_row-BoundItem-0 items) row)
    ∙ (row_is _ row ∙ ap listed_items (items_hidden-the_row-BoundItem-0 items)))

pub members_of-out : (ms : BoundList) → members_of ms ≡ listed_items (out-BoundList ms).items.items
members_of-out ms = ap members_of (sym (roll-out-BoundList ms))
    ∙ members_of-roll (out-BoundList ms).items

pub listed-members : (items : List BoundItem) → listed_items items ≡ members (map item_found items)
listed-members [] = refl
listed-members (i ∷ items) = ap (member i.weight (found_of i.bound)) (listed-members items)

abbrev mutual
  -- how many leaves and unions a bound has
  pub found_size : Found → ℕ
  found_size (one leaf) = 1
  found_size (many ms) = 1 + list_size ms

  pub list_size : FoundList → ℕ
  list_size no_member = 0
  list_size (member n f ms) = found_size f + list_size ms

size_at : (items : List BoundItem) (i : ℕ) (d : BoundItem) → i < length items
    → found_size (found_of (get_or items i d).bound) ≤ list_size (listed_items items)
size_at [] i d lt = absurd (omega arith)
size_at (x ∷ items) zero d lt = omega arith
size_at (x ∷ items) (suc i) d lt = omega (arith, size_at items i d (omega arith))

-- a branch of a union is smaller than the union, so a recursion over bounds ends
pub smaller : (bound : Bound) (list : BoundList) (items : List BoundItem) (i : ℕ)
    (item : BoundItem) → bound ≡ Many list → members_of list ≡ listed_items items → i < length items
    → item ≡ get_or items i item → found_size (found_of item.bound) < found_size (found_of bound)
smaller bound list items i item is items_are lt item_is =
    let at : found_size (found_of item.bound) ≤ list_size (listed_items items) =
    subst (λ (x : BoundItem). found_size (found_of x.bound) ≤ list_size (listed_items items))
    (sym item_is) (size_at items i item lt) in
    rw (is, items_are) (omega arith)
