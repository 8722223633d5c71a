use Rattle.std.proofs.Common.{subst, sym}
use Rattle.addr_book.specs.AddrList.{HaveWeights}
use Rattle.addr_book.proofs.addr_file.read_addrs.Goals as goal

pub distinct-requires-clause-weights : goal.distinct-requires-clause-weights
distinct-requires-clause-weights c =
    subst HaveWeights (sym c.as_slice.ensures.value) c.in_ok-items.ensures.weights
