-- What contracts read of a value that is lent.
use Rattle.std.specs.Prelude.{Option}
use Rattle.std.specs.Borrow.{GName}
use Rattle.left_right.specs.Sides.{view}
use Rattle.snap_cell.specs.declared.kept.Origin.{Origin}
use Rattle.snap_cell.specs.declared.guard.Guard.{Guard}
use Rattle.snap_cell.specs.declared.guard.Stay.{Ghosts}
use Rattle.snap_cell.specs.declared.reader.enter.Entered.{Entered}
use Rattle.snap_cell.specs.declared.writer.value.Whole.{Whole}

module _ {Y H T C : Type 0} {g : Ghosts Y H T C} where
  -- whose `&mut` the guard has
  abbrev pub lender_of : Guard Y H T C g → GName
  lender_of x = x.home.ghost_name

  -- the reader that the guard has
  abbrev pub reader_in : Guard Y H T C g → H
  reader_in x = x.home.now

-- the value that a reader entered
abbrev pub value_in : {V O Q S H T C : Type 0} {g : Ghosts (Entered V O Q S) H T C}
    → Guard (Entered V O Q S) H T C g → V
value_in x = x.stay.reading.reading.part.value.value

module _ {V O Q S : Type 0} where
  -- the value that a reader entered, in the hands of whoever puts it back
  abbrev pub entered_value : Entered V O Q S → V
  entered_value e = e.reading.reading.part.value.value

  -- of which cell that reader is
  abbrev pub cell_left : Entered V O Q S → Option (Origin V O)
  cell_left e = view e.reading.reading.place

module _ {V O S : Type 0} where
  -- the value that the writer's own reader entered
  abbrev pub whole_value : Whole V O S → V
  whole_value w = w.reading.reading.part.value.value

  -- of which cell that reader is
  abbrev pub cell_entered : Whole V O S → Option (Origin V O)
  cell_entered w = view w.reading.reading.place
