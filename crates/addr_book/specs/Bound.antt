-- What the code's bounds say.
use Rattle.std.specs.Prelude.{ℕ, List, [], ◌∷◌}
use Rattle.addr_book.specs.declared.bound.Bound.{Bound, One, Many}
use Rattle.addr_book.specs.declared.bound.BoundItem.{BoundItem}
use Rattle.addr_book.specs.declared.bound.BoundList.{BoundList, BoundList', Row_of-BoundItem}
use Rattle.addr_book.specs.declared.bound.BoundList.{end_of-BoundItem, more_of-BoundItem}
use Rattle.addr_book.specs.Found.{Found, one, many, FoundList, no_member, member}

abbrev mutual
  -- what a bound of the code says
  pub found_of : Bound → Found
  found_of (One leaf) = one leaf
  found_of (Many ms) = many (members_of ms)

  -- what a list of bound branches says
  pub members_of : BoundList → FoundList
  members_of (BoundList' shape row) = row_members row

  pub row_members : {m : _} → Row_of-BoundItem m → FoundList
  row_members end_of-BoundItem = no_member
  row_members (more_of-BoundItem weight b ms) = member weight (found_of b) (row_members ms)

-- a bound branch: its weight, and what it finds
abbrev pub item_found : BoundItem → ℕ × Found
item_found i = (i.weight, found_of i.bound)

-- bound branches, in the order of a list
abbrev pub listed_items : List BoundItem → FoundList
listed_items [] = no_member
listed_items (i ∷ ms) = member i.weight (found_of i.bound) (listed_items ms)
