-- Branches on the way down a bound.
use Rattle.std.proofs.Common.{◌≡◌, ℕ, zero, suc, ◌+◌, ◌-◌, ◌<◌, ◌≤◌, List, [], ◌∷◌, length}
use Rattle.std.proofs.Common.{length-drop, get_or, take, drop, Option, Some, None, refl, sym, ap}
use Rattle.std.proofs.Common.{subst, ◌∙◌, arith}
use Rattle.std.specs.Prelude.{IfSome, slice_get}
use Rattle.std.proofs.lemmas.List.{take_rest}
use Rattle.std.proofs.lemmas.Option.{slice_get_read}
use Rattle.addr_book.specs.declared.bound.Bound.{Bound, Many}
use Rattle.addr_book.specs.declared.bound.BoundItem.{BoundItem}
use Rattle.addr_book.specs.declared.bound.BoundList.{BoundList}
use Rattle.addr_book.specs.Found.{IsFilled, AreFilled, IsBounded, AreBounded}
use Rattle.addr_book.specs.Bound.{found_of, members_of, listed_items}
use Rattle.addr_book.proofs.Bounds.{found_size}
use Rattle.choose_core.specs.declared.way.Reached.{Reached}
use Rattle.choose_core.specs.Way.{IsBranch, items_size, choice_size}
use Rattle.choose_core.proofs.Branches.{same_item, bounded_at, filled_at}
use Rattle.choose_core.proofs.Passing.{cut}

filled_later : (items : List BoundItem) (i : ℕ) → AreFilled (listed_items items)
    → AreFilled (listed_items (drop i items))
filled_later items zero filled = filled
filled_later [] (suc i) filled = filled
filled_later (x ∷ items) (suc i) filled = filled_later items i filled.2

bounded_later : (items : List BoundItem) (i : ℕ) → AreBounded (listed_items items)
    → AreBounded (listed_items (drop i items))
bounded_later items zero bounded = bounded
bounded_later [] (suc i) bounded = bounded
bounded_later (x ∷ items) (suc i) bounded = bounded_later items i bounded.2

weight_at : (items : List BoundItem) (i : ℕ) (x : BoundItem) → AreFilled (listed_items items)
    → slice_get items i ≡ Some x → 0 < x.weight
weight_at [] i x filled at = cc
weight_at (y ∷ items) zero x filled at =
    subst (λ (z : BoundItem). 0 < z.weight) (same_item y x at) filled.0
weight_at (y ∷ items) (suc i) x filled at = weight_at items i x filled.2 at

-- a branch and those behind it are no larger than all branches
pub size_later : (items : List BoundItem) (i : ℕ) (x : BoundItem) → i < length items
    → x ≡ get_or items i x
    → found_size (found_of x.bound) + items_size (drop (i + 1) items) ≤ items_size items
size_later items i x lt is = omega (arith, ap items_size (cut items i x lt is), size_drop items i)
  where
    size_drop : (items : List BoundItem) (i : ℕ) → items_size (drop i items) ≤ items_size items
    size_drop items zero = omega arith
    size_drop [] (suc i) = omega arith
    size_drop (x ∷ items) (suc i) = omega (arith, size_drop items i)

pub some_below : (choice : Option Reached) (m n : ℕ) → m ≤ n
    → IfSome choice (λ c. choice_size c < m) → IfSome choice (λ c. choice_size c < n)
some_below None m n le h = tt
some_below (Some choice) m n le h = omega arith

module _ (items : List BoundItem) (i : ℕ) (x : BoundItem) (lt : i < length items)
    (is : x ≡ get_or items i x) where
  here : slice_get items i ≡ Some x
  here = slice_get_read items (length items) i x refl lt is

  pub filled_there : AreFilled (listed_items items) → IsFilled (found_of x.bound)
  filled_there filled = filled_at items i x filled here

  pub bounded_there : AreBounded (listed_items items) → IsBounded (found_of x.bound)
  bounded_there bounded = (bounded_at items i x bounded here).1

  -- a branch of a good union, with those behind it
  pub branch_there : (later : List BoundItem) → later
      ≡ take (length items - (i + 1)) (drop (i + 1) items) → length items ≤ 65536
      → AreFilled (listed_items items) → AreBounded (listed_items items)
      → IsBranch x.weight later
  branch_there later later_is few filled bounded =
      let rest = later_is ∙ take_rest items (i + 1) in
      subst (λ (ys : List BoundItem). IsBranch x.weight ys) (sym rest) (record {
        some = weight_at items i x filled here;
        small = omega (arith, (bounded_at items i x bounded here).0);
        few = omega (arith, length-drop (i + 1) items);
        filled = filled_later items (i + 1) filled;
        bounded = bounded_later items (i + 1) bounded;
      })

-- what is in a branch and on the way to it is less than what is in its union and on the way to that
pub size_down : (bound : Bound) (list : BoundList) (items : List BoundItem) (i : ℕ) (x : BoundItem)
    (later : List BoundItem) (way : ℕ) → bound ≡ Many list → members_of list ≡ listed_items items
    → i < length items → x ≡ get_or items i x → later
    ≡ take (length items - (i + 1)) (drop (i + 1) items)
    → found_size (found_of x.bound) + (items_size later + way) ≤ found_size (found_of bound) + way
size_down bound list items i x later way bound_is items_are lt is later_is =
    let rest = ap items_size (later_is ∙ take_rest items (i + 1)) in
    rw (bound_is, items_are) (omega (arith, rest, size_later items i x lt is))
