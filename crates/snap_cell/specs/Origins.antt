-- Of which cell a handle is.
use Rattle.std.specs.Prelude.{ℕ}
use Rattle.snap_cell.specs.declared.history.Prefix.{Prefix}
use Rattle.snap_cell.specs.declared.kept.Origin.{Origin}

-- of the cell that begins with this value and this list, with so many readers
abbrev pub origin_at : {V O : Type 0} → V → ℕ → Prefix O → Origin V O
origin_at first readers empty =
    record {
      opening = record { marker = record {}; value = first };
      readers = readers;
      empty = empty.seen;
    }
