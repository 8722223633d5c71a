-- How marks lie in the code, and places among them.
use Rattle.std.specs.Prelude.{◌≡◌, ℕ, ◌<◌, ◌≤◌, List, length, map, slice_index_or, IsTrue, All}
use Rattle.std.specs.declared.cmp.Ordering.TheVariants.{Less, Equal, Greater}
use Rattle.std.specs.FinMap.{is_sorted, from_sorted}
use Rattle.addr_book.specs.declared.addr.Addr.{Addr}
use Rattle.addr_book.specs.AddrList.{addr_cmp}
use Rattle.choose_core.specs.declared.mark.Mark.{Mark}
use Rattle.choose_core.specs.declared.marked.Marked.{Marked}
use Rattle.choose_core.specs.Marks.{MarkMap}

abbrev pub entry_of : Marked → Addr × Mark
entry_of m = (m.addr, m.mark)

abbrev pub marks_of : List Marked → MarkMap
marks_of items = from_sorted (map entry_of items)

abbrev pub IsInOrder : List Marked → Type 0
IsInOrder items = IsTrue (is_sorted addr_cmp (map entry_of items))

-- the addresses rise, each has a failure, and there is room for 8,192
pub record AreSound (items : List Marked) (capacity : ℕ) : Type 0 where
  pub sorted : IsInOrder items
  pub failed : All (λ m. 1 ≤ m.mark.count) items
  pub few : length items ≤ 8192
  pub room : 8192 ≤ capacity

-- from this moment on none of the addresses is dead, whatever the limits
abbrev pub AreOver : List Marked → ℕ → Type 0
AreOver items until = All (λ m. m.mark.until ≤ until) items

-- what holds of marks and the moment that is kept beside them
pub record AreKept (items : List Marked) (capacity until : ℕ) : Type 0 where
  pub sound : AreSound items capacity
  pub over : AreOver items until

-- the address is at the place
pub record IsPlace (items : List Marked) (addr : Addr) (at : ℕ) : Type 0 where
  pub within : at < length items
  pub here : (d : Marked) → addr_cmp (slice_index_or items at d).addr addr ≡ Equal

-- the addresses before the place are below this one, and those from it on are above
pub record IsGap (items : List Marked) (addr : Addr) (at : ℕ) : Type 0 where
  pub within : at ≤ length items
  pub before : (k : ℕ) (d : Marked) → k < at → addr_cmp (slice_index_or items k d).addr addr ≡ Less
  pub behind : (k : ℕ) (d : Marked) → at ≤ k → k < length items
      → addr_cmp (slice_index_or items k d).addr addr ≡ Greater
