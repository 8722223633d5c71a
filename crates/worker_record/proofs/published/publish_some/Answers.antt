use Rattle.std.proofs.Common.{arith}
use Rattle.exchange_tally.specs.Figures.{place_of}
use Rattle.count_words.specs.Seats.{counts_of}
use Rattle.worker_record.proofs.Storing.{none_pending, some_pending}
use Rattle.worker_record.proofs.published.publish_some.Goals as goal

pub returns-then-by-gt0-clause-others : goal.returns-then-by-gt0-clause-others
returns-then-by-gt0-clause-others c pending but =
    c.publish.ensures.others pending
    (some_pending c.args.by (place_of c.args.figure) pending c.args.tally.now
    (counts_of c.args.writer.now) (omega (arith, c.if-by-gt0.true)) but)

pub returns-else-by-gt0-clause-others : goal.returns-else-by-gt0-clause-others
returns-else-by-gt0-clause-others c pending but =
    none_pending c.args.by (place_of c.args.figure) pending c.args.tally.now
    (counts_of c.args.writer.now) (omega (arith, c.if-by-gt0.false)) but
