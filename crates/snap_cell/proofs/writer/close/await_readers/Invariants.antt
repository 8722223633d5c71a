use Rattle.std.proofs.Common.{◌≡◌, ◌<◌, ℕ, Some, length, slice_get}
use mathlib.Core.List.{IsPrefix}
use Rattle.snap_cell.specs.declared.reader.Reader.{Reader}
use Rattle.snap_cell.specs.Items.{InOrder}
use Rattle.snap_cell.specs.Views.{seen_of, items_of}
use Rattle.snap_cell.proofs.writer.close.await_readers.Given as goal

-- of those that were looked at, what each has seen begins the list
abbrev pub invariant-loop-reader : goal.invariant-loop-reader
invariant-loop-reader g l = (i : ℕ)
    (r : Reader g.row.V.Denot g.row.O.Denot g.row.Q.Denot g.row.V-State.Denot) → i < l.reader-index
    → slice_get l.fn.readers i ≡ Some r
    → IsPrefix (seen_of r) l.fn.known.seen.log × InOrder (items_of r) (length (seen_of r))
