use Rattle.std.proofs.Common.{sym, ◌∙◌}
use Rattle.body_wire.proofs.Trails.{goes_on, ends_at}
use Rattle.body_wire.proofs.trailers.follow.Goals as goal

pub returns-in-None : goal.returns-in-None
returns-in-None c =
    ends_at c.args.at c.loop-index.line c.args.bytes.now c.loop-index.index c.loop-index-test.true
    c.loop-index.invariant (sym c.in-None.is ∙ c.after.ensures)

pub loop-index-preserved : goal.loop-index-preserved
loop-index-preserved c =
    goes_on c.args.at c.loop-index.line c.in-Some.next c.args.bytes.now c.loop-index.index
    c.loop-index-test.true c.loop-index.invariant (sym c.in-Some.is ∙ c.after.ensures)
