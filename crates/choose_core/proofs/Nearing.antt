-- A place among marks in order that is settled by its neighbours.
use Rattle.std.proofs.Common.{◌≡◌, ℕ, ◌-◌, ◌<◌, ◌≤◌, List, length, get_or, map, sym, ap, ◌∙◌, subst}
use Rattle.std.proofs.Common.{arith, ⊎_elim}
use Rattle.std.specs.Prelude.{T}
use Rattle.std.specs.declared.cmp.Ordering.TheVariants.{Less, Greater}
use Rattle.std.specs.Ordering.{ordering_reverse}
use Rattle.std.specs.FinMap.{is_sorted}
use Rattle.std.proofs.lemmas.Bool.{cases_eq}
use Rattle.std.proofs.lemmas.List.{get_or_default}
use Rattle.addr_book.specs.declared.addr.Addr.{Addr}
use Rattle.addr_book.specs.AddrList.{addr_cmp}
use Rattle.addr_book.proofs.AddrLists.{addr_total}
use Rattle.addr_book.proofs.Places.{rises}
use Rattle.choose_core.specs.declared.marked.Marked.{Marked}
use Rattle.choose_core.specs.Marked.{entry_of, IsInOrder, IsGap}

module _ (items : List Marked) (h : IsInOrder items) (addr : Addr) where
  sorted : T (is_sorted addr_cmp (map entry_of items))
  sorted = subst T (sym h) tt

  -- the marks before one that is below an address are below it
  pub all_behind : (at : ℕ) (m : Marked) → 1 ≤ at → at ≤ length items
      → addr_cmp (get_or items (at - 1) m).addr addr ≡ Less
      → (k : ℕ) (d : Marked) → k < at → addr_cmp (get_or items k d).addr addr ≡ Less
  all_behind at m some within below k d lt =
      let last : addr_cmp (get_or items (at - 1) d).addr addr ≡ Less =
      ap (λ (x : Marked). addr_cmp x.addr addr) (get_or_default items (at - 1) d m (omega arith))
      ∙ below in
      ⊎_elim
      (λ (e : k ≡ at - 1). ap (λ n. addr_cmp (get_or items n d).addr addr) e ∙ last)
      (λ ne. addr_total.trans (get_or items k d).addr (get_or items (at - 1) d).addr addr
      (rises addr_total entry_of items k (at - 1) d sorted (omega (arith, ne)) (omega arith)) last)
      (cases_eq k (at - 1))

  above : (x y : Addr) → addr_cmp x y ≡ Less → addr_cmp y x ≡ Greater
  above x y e = addr_total.antisymm y x ∙ ap ordering_reverse e

  below : (x y : Addr) → addr_cmp x y ≡ Greater → addr_cmp y x ≡ Less
  below x y e = addr_total.antisymm y x ∙ ap ordering_reverse e

  -- and those behind one that is above it are above it
  all_above : (at : ℕ) (m : Marked) → at < length items
      → addr_cmp (get_or items at m).addr addr ≡ Greater
      → (k : ℕ) (d : Marked) → at ≤ k → k < length items
      → addr_cmp (get_or items k d).addr addr ≡ Greater
  all_above at m within over k d le lt =
      let first : addr_cmp (get_or items at d).addr addr ≡ Greater =
      ap (λ (x : Marked). addr_cmp x.addr addr) (get_or_default items at d m within) ∙ over in
      ⊎_elim
      (λ (e : k ≡ at). ap (λ n. addr_cmp (get_or items n d).addr addr) e ∙ first)
      (λ ne. above addr (get_or items k d).addr
      (addr_total.trans addr (get_or items at d).addr (get_or items k d).addr
      (below (get_or items at d).addr addr first)
      (rises addr_total entry_of items at k d sorted (omega (arith, ne)) lt)))
      (cases_eq k at)

  -- so an address that is not at a place goes there, where those before are below it and the one
  -- there is above it
  pub gap_here : (at : ℕ) (m : Marked)
      → ((k : ℕ) (d : Marked) → k < at → addr_cmp (get_or items k d).addr addr ≡ Less)
      → at < length items
      → addr_cmp (get_or items at m).addr addr ≡ Greater → IsGap items addr at
  gap_here at m before within over = record
      { within = omega arith; before = before; behind = all_above at m within over }
