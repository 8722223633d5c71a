use Rattle.snap_cell.proofs.kept.Origin.of.Goals as goal

pub returns : goal.returns
returns g c = λ i. record {
  opening = record { marker = record {}; value = c.of.ensures i };
  readers = c.args.readers;
  empty = c.again.ensures i;
}
