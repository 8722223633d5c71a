use Rattle.std.proofs.Common.{arith}
use Rattle.line_base.proofs.Placed.{placed_more}
use Rattle.net_edge.specs.Sockets.{IsFresh}
use Rattle.net_edge.proofs.sockets.held.copies_of.Goals as goal

pub loop-place-preserved : goal.loop-place-preserved
loop-place-preserved g c =
    record {
      count = omega (arith, c.in-Ok.ensures.len);
      fresh = placed_more (λ at l. IsFresh l) _ _ _ _ c.in-Ok.ensures.items
          c.loop-place.invariant.count c.loop-place.invariant.fresh c.of-copy.ensures.fresh;
    }
