use Rattle.std.proofs.Common.{vec_len}
use Rattle.dtab_index.specs.Prefix.{patterns_of}
use Rattle.dtab_index.proofs.Known.{ArePut}
use Rattle.dtab_index.proofs.columns.put_labels.Given as goal

abbrev pub invariant-loop-pattern : goal.invariant-loop-pattern
invariant-loop-pattern l = ArePut (patterns_of l.fn.prefix.items)
    (patterns_of l.prefix.items) l.fn.columns.items l.columns.items l.place

abbrev pub decreases-loop-pattern : goal.decreases-loop-pattern
decreases-loop-pattern l = vec_len l.prefix
