use Rattle.snap_cell.proofs.writer.Writer.close.Goals as goal

pub await_readers-requires-clause-own : goal.await_readers-requires-clause-own
await_readers-requires-clause-own g c = rw (c.as_slice.ensures.value) c.requires.own
