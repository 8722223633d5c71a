use Rattle.std.proofs.Common.{◌<◌, length, arith}
use Rattle.exchange_tally.specs.Figures.{place_of}
use Rattle.count_words.specs.Seats.{counts_of}
use Rattle.worker_record.proofs.Storing.{below_stored, behind_stored, others_stored}
use Rattle.worker_record.proofs.published.publish.Goals as goal

pub publish-requires-clause-grows : goal.publish-requires-clause-grows
publish-requires-clause-grows c =
    rw (c.place.ensures.place, c.count.ensures) (c.requires.below c.args.figure)

pub returns-clause-below : goal.returns-clause-below
returns-clause-below c =
    let few : place_of c.args.figure < 46 =
    omega (arith, c.place.ensures.place, c.place.ensures.within) in
    let within : place_of c.args.figure < length (counts_of c.args.writer.now) =
    omega (arith, few, c.args.writer.now.own) in
    rw (c.publish.ensures.counts, c.place.ensures.place, c.count.ensures)
    (below_stored (counts_of c.args.writer.now) c.args.tally.now c.args.figure within
    c.requires.below)

pub returns-clause-others : goal.returns-clause-others
returns-clause-others c pending but =
    let few : place_of c.args.figure < 46 =
    omega (arith, c.place.ensures.place, c.place.ensures.within) in
    let within : place_of c.args.figure < length (counts_of c.args.writer.now) =
    omega (arith, few, c.args.writer.now.own) in
    rw (c.publish.ensures.counts, c.place.ensures.place, c.count.ensures)
    (others_stored (counts_of c.args.writer.now) c.args.tally.now c.args.figure within pending but)

pub returns-clause-behind : goal.returns-clause-behind
returns-clause-behind c =
    let few : place_of c.args.figure < 46 =
    omega (arith, c.place.ensures.place, c.place.ensures.within) in
    let within : place_of c.args.figure < length (counts_of c.args.writer.now) =
    omega (arith, few, c.args.writer.now.own) in
    rw (c.publish.ensures.counts, c.place.ensures.place, c.count.ensures)
    (behind_stored (counts_of c.args.writer.now) c.args.tally.now c.args.figure within few)
