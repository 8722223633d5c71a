use Rattle.std.proofs.Common.{arith}
use Rattle.std.specs.Ordering.{nat_cmp}
use Rattle.std.specs.Cmp.Lexicographic.{slice_cmp}
use Rattle.std.specs.FinMap.{len-empty}
use Rattle.ns_store.specs.Contents.{Space}
use Rattle.ns_store.proofs.store.Store.with_next.Goals as goal

pub invariant_of-result : goal.invariant_of-result
invariant_of-result c =
    record {
      few = rw (c.in_ok-new.ensures.ok, c.new.ensures)
          (omega (arith, len-empty (slice_cmp nat_cmp) Space));
    }
