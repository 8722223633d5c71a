-- What contracts read of a writer and of a note.
use Rattle.std.specs.Prelude.{ℕ, ◌≡◌, List, IsSome}
use Rattle.left_right.specs.declared.Absorb.{Ghosts}
use Rattle.logbook.specs.Pages.{Book}
use Rattle.snap_cell.specs.declared.kept.Origin.{Origin}
use Rattle.snap_cell.specs.declared.kept.Kept.{Kept}
use Rattle.snap_cell.specs.declared.kept.Entry.{Entry}
use Rattle.snap_cell.specs.declared.writer.Writer.{Writer}
use Rattle.snap_cell.specs.declared.writer.Note.{Note}

-- the operations that a note tells of
abbrev pub told_by : {O : Type 0} → Note O → List O
told_by n = n.known.seen.log

-- of which list of published operations a note tells
abbrev pub list_told : {O : Type 0} → Note O → Book
list_told n = n.known.seen.book

module _ {V O S T : Type 0} {g : Ghosts (Kept V O) (Entry O) T} where
  -- all operations that were published, in order
  abbrev pub published_by : Writer V O S T g → List O
  published_by w = w.known.seen.log

  -- of which cell it is the writer
  abbrev pub cell_written : Writer V O S T g → Origin V O
  cell_written w = w.origin

  -- the value with which the cell began
  abbrev pub opening_written : Writer V O S T g → V
  opening_written w = w.origin.opening.value

  -- how many readers the cell has
  abbrev pub reader_count : Writer V O S T g → ℕ
  reader_count w = w.origin.readers

  -- the writer's own reader is at its place, and not away with a value
  abbrev pub IsReadable : Writer V O S T g → Type 0
  IsReadable w = IsSome w.door

  -- it is the writer of the same cell, and has published the same
  pub record SameWriter (old new : Writer V O S T g) : Type 0 where
    pub cell : cell_written new ≡ cell_written old
    pub published : published_by new ≡ published_by old
