use Rattle.std.proofs.Common.{ℕ, ◌-◌, vec_len}
use Rattle.dtab_index.specs.Columns.{KeepSaid}
use Rattle.dtab_index.proofs.columns.make_columns.Given as goal

abbrev pub invariant-loop-alloc : goal.invariant-loop-alloc
invariant-loop-alloc l = (place : ℕ) → KeepSaid l.fn.columns.items l.columns.items place

abbrev pub decreases-loop-alloc : goal.decreases-loop-alloc
decreases-loop-alloc l = l.count - vec_len l.columns
