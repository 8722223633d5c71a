-- Branches of a union of which pruning leaves something, one by one, and the branch that a number
-- chooses.
use Rattle.std.proofs.Common.{◌≡◌, ℕ, zero, suc, ◌+◌, ◌^◌, ◌<◌, ◌≤◌, List, [], ◌∷◌, length, get_or}
use Rattle.std.proofs.Common.{drop, true, false, Option, Some, None, refl, sym, ap, subst, ◌∙◌}
use Rattle.std.proofs.Common.{arith}
use Rattle.std.specs.Prelude.{is_some, slice_get}
use Rattle.addr_book.specs.declared.bound.Bound.{Bound, Many}
use Rattle.addr_book.specs.declared.bound.BoundItem.{BoundItem}
use Rattle.addr_book.specs.declared.bound.BoundList.{BoundList}
use Rattle.addr_book.specs.Book.{Services}
use Rattle.addr_book.specs.Found.{Found, many, FoundList, member, count_members, IsFilled}
use Rattle.addr_book.specs.Found.{AreFilled, IsBounded, AreBounded}
use Rattle.addr_book.specs.Bound.{found_of, members_of, listed_items}
use Rattle.choose_core.specs.Branch.{pruned, pruned_members, kept_member}
use Rattle.choose_core.specs.Good.{IsGood}
use Rattle.choose_core.proofs.Passing.{cut}

pub same_item : (y x : BoundItem) → Some y ≡ Some x → y ≡ x
same_item y x e = cc

module _ (services : Services) where
  abbrev pub left_of : List BoundItem → FoundList
  left_of items = pruned_members services (listed_items items)

  -- ---- the next branch
  gone : (r : Option Found) (w : ℕ) (ms : FoundList) → is_some r ≡ false → kept_member w r ms ≡ ms
  gone None w ms e = refl
  gone (Some f) w ms e = cc

  pub next_gone : (items : List BoundItem) (i : ℕ) (x : BoundItem) → i < length items
      → x ≡ get_or items i x → is_some (pruned services (found_of x.bound)) ≡ false
      → left_of (drop i items) ≡ left_of (drop (i + 1) items)
  next_gone items i x lt is e = ap left_of (cut items i x lt is)
      ∙ gone (pruned services (found_of x.bound)) x.weight (left_of (drop (i + 1) items)) e

  -- what is left of it
  pub record IsNext (items : List BoundItem) (i : ℕ) (x : BoundItem) : Type 0 where
    pub found : Found
    pub left : pruned services (found_of x.bound) ≡ Some found
    pub next : left_of (drop i items) ≡ member x.weight found (left_of (drop (i + 1) items))

  there : (r : Option Found) (w : ℕ) (ms : FoundList) → is_some r ≡ true
      → (f : Found) × (r ≡ Some f) × (kept_member w r ms ≡ member w f ms)
  there None w ms e = cc
  there (Some f) w ms e = (f, refl, refl)

  pub next_left : (items : List BoundItem) (i : ℕ) (x : BoundItem) → i < length items
      → x ≡ get_or items i x → is_some (pruned services (found_of x.bound)) ≡ true
      → IsNext items i x
  next_left items i x lt is e =
      let kept = there (pruned services (found_of x.bound)) x.weight
      (left_of (drop (i + 1) items)) e in
      record { found = kept.0; left = kept.1; next = ap left_of (cut items i x lt is) ∙ kept.2 }

-- ---- what holds of each branch
pub count_listed : (items : List BoundItem) → count_members (listed_items items) ≡ length items
count_listed [] = refl
count_listed (x ∷ items) = omega (arith, count_listed items)

pub bounded_at : (items : List BoundItem) (i : ℕ) (x : BoundItem) → AreBounded (listed_items items)
    → slice_get items i ≡ Some x → (x.weight < 10 ^ 12) × IsBounded (found_of x.bound)
bounded_at [] i x h at = cc
bounded_at (y ∷ items) zero x h at =
    subst (λ (z : BoundItem). (z.weight < 10 ^ 12) × IsBounded (found_of z.bound))
    (same_item y x at) (h.0, h.1)
bounded_at (y ∷ items) (suc i) x h at = bounded_at items i x h.2 at

pub filled_at : (items : List BoundItem) (i : ℕ) (x : BoundItem) → AreFilled (listed_items items)
    → slice_get items i ≡ Some x → IsFilled (found_of x.bound)
filled_at [] i x h at = cc
filled_at (y ∷ items) zero x h at =
    subst (λ (z : BoundItem). IsFilled (found_of z.bound)) (same_item y x at) h.1
filled_at (y ∷ items) (suc i) x h at = filled_at items i x h.2 at

-- ---- a union of the code
union_found : (bound : Bound) (list : BoundList) (items : List BoundItem) → bound ≡ Many list
    → members_of list ≡ listed_items items → found_of bound ≡ many (listed_items items)
union_found bound list items is items_are = ap found_of is ∙ ap many items_are

pub union_bounded : (bound : Bound) (list : BoundList) (items : List BoundItem) → bound ≡ Many list
    → members_of list ≡ listed_items items → IsBounded (found_of bound)
    → (length items ≤ 65536) × AreBounded (listed_items items)
union_bounded bound list items is items_are bounded =
    let h = subst IsBounded (union_found bound list items is items_are) bounded in
    (omega (arith, h.0, count_listed items), h.1)

pub union_filled : (bound : Bound) (list : BoundList) (items : List BoundItem) → bound ≡ Many list
    → members_of list ≡ listed_items items → IsFilled (found_of bound)
    → AreFilled (listed_items items)
union_filled bound list items is items_are filled =
    (subst IsFilled (union_found bound list items is items_are) filled).1

-- ---- a union that is made of branches
pub union_good : (list : BoundList) (items : List BoundItem) → members_of list ≡ listed_items items
    → 1 ≤ length items → length items ≤ 65536 → AreFilled (listed_items items)
    → AreBounded (listed_items items) → IsGood (Many list)
union_good list items items_are some few filled bounded =
    let are = sym (union_found (Many list) list items refl items_are) in
    record {
      filled = subst IsFilled are (omega (arith, some, count_listed items), filled);
      bounded = subst IsBounded are (omega (arith, few, count_listed items), bounded);
    }
