-- What a copy of the value is, for its operations.
use Rattle.std.specs.Prelude.{Option, Some, None}
use Rattle.snap_cell.specs.declared.history.Prefix.{Prefix}
use Rattle.snap_cell.specs.declared.kept.Entry.{Entry}

module _ {S O : Type 0} (applied : S → O → S) where
  -- an entry without an operation leaves the state
  abbrev pub after_operation : S → Option O → S
  after_operation s None = s
  after_operation s (Some op) = applied s op

  -- the copy then has the entry's list
  abbrev pub after_entry : {K : Type 0} → S × (K × Prefix O) → Entry O → S × (K × Prefix O)
  after_entry s e = (after_operation s.0 e.operation, (s.1.0, e.known))
