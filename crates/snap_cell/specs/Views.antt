-- What contracts read of a reader, and how it moves.
use Rattle.std.specs.Prelude.{ℕ, ◌≡◌, ◌+◌, ◌-◌, ◌^◌, min, List, [], Some, IsSome, slice_get, length}
use mathlib.Core.List.{IsPrefix}
use Rattle.logbook.specs.Pages.{Book}
use Rattle.snap_cell.specs.declared.kept.Origin.{Origin}
use Rattle.snap_cell.specs.declared.reader.Reader.{Reader}
use Rattle.snap_cell.specs.Items.{items_in, InOrder}

-- which list of published operations a cell has
abbrev pub list_of : {V O : Type 0} → Origin V O → Book
list_of o = o.empty.book

module _ {V O Q S : Type 0} where
  -- the operations that a reader has seen or learnt of
  abbrev pub seen_of : Reader V O Q S → List O
  seen_of r = r.known.seen.log

  -- the items of a reader, each with its point
  abbrev pub items_of : Reader V O Q S → List (Q × ℕ)
  items_of r = items_in r.items.value

  -- the number of a reader among those of its cell
  abbrev pub number_of : Reader V O Q S → ℕ
  number_of r = r.number

  -- how often a reader was not let in
  abbrev pub refusals_of : Reader V O Q S → ℕ
  refusals_of r = r.refused

  -- of which cell a reader is
  abbrev pub cell_of : Reader V O Q S → Origin V O
  cell_of r = r.origin

  -- the value with which the cell began
  abbrev pub opening_of : Reader V O Q S → V
  opening_of r = r.origin.opening.value

  -- how many readers the cell has
  abbrev pub readers_of : Reader V O Q S → ℕ
  readers_of r = r.origin.readers

  -- the reader is at its place in the cell, from where it may enter, and not away
  abbrev pub IsThere : Reader V O Q S → Type 0
  IsThere r = IsSome r.door

  -- it is the same reader of the same cell
  pub record SameReader (old new : Reader V O Q S) : Type 0 where
    pub number : number_of new ≡ number_of old
    pub cell : cell_of new ≡ cell_of old

  -- nothing moved, but for the place at which it stands
  pub record Unmoved (old new : Reader V O Q S) : Type 0 where
    pub same : SameReader old new
    pub refusals : refusals_of new ≡ refusals_of old
    pub seen : seen_of new ≡ seen_of old
    pub items : items_of new ≡ items_of old

  -- nothing moved, and the reader is back at its place
  pub record Returned (old new : Reader V O Q S) : Type 0 where
    pub same : SameReader old new
    pub refusals : refusals_of new ≡ refusals_of old
    pub seen : seen_of new ≡ seen_of old
    pub items : items_of new ≡ items_of old
    pub there : IsThere new

  -- the number of refusals rose, or stands at its last value, and all else is as before
  pub record Refused (old new : Reader V O Q S) : Type 0 where
    pub same : SameReader old new
    pub refusals : refusals_of new ≡ min (refusals_of old + 1) (2 ^ 64 - 1)
    pub seen : seen_of new ≡ seen_of old
    pub items : items_of new ≡ items_of old
    pub there : IsThere old → IsThere new

  -- a reader that has seen nothing, with this number
  pub record IsNew (origin : Origin V O) (count : ℕ) (r : Reader V O Q S) : Type 0 where
    pub cell : cell_of r ≡ origin
    pub number : number_of r ≡ count
    pub refusals : refusals_of r ≡ 0
    pub seen : seen_of r ≡ []
    pub items : items_of r ≡ []

  -- readers that have seen nothing, numbered from 0
  abbrev pub EachNew : Origin V O → List (Reader V O Q S) → Type 0
  EachNew origin rs = (i : ℕ) (r : Reader V O Q S) → slice_get rs i ≡ Some r → IsNew origin i r

  -- each is at its place
  abbrev pub EachThere : List (Reader V O Q S) → Type 0
  EachThere rs = (i : ℕ) (r : Reader V O Q S) → slice_get rs i ≡ Some r → IsThere r

  -- each is of this cell
  abbrev pub EachOf : Origin V O → List (Reader V O Q S) → Type 0
  EachOf origin rs = (i : ℕ) (r : Reader V O Q S) → slice_get rs i ≡ Some r → cell_of r ≡ origin

  -- what each has seen begins this list, and its items stand in order within that
  abbrev pub EachSeen : List O → List (Reader V O Q S) → Type 0
  EachSeen ops rs =
      (i : ℕ) (r : Reader V O Q S) → slice_get rs i ≡ Some r → IsPrefix (seen_of r) ops
      × InOrder (items_of r) (length (seen_of r))
