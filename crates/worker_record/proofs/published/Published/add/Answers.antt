use Rattle.count_words.specs.Seats.{counts_of}
use Rattle.worker_record.proofs.Lines.{lines_kept, steps_kept}
use Rattle.worker_record.proofs.Moving.{are_below, moved_of}
use Rattle.worker_record.proofs.published.Published.add.Goals as goal

pub publish_moved-requires : goal.publish_moved-requires
publish_moved-requires c =
    let was = c.args.self.now in
    record {
      writer = was.writes;
      within = was.within;
      below =
          are_below was.tally c.add.new.self c.args.timed.now (counts_of was.writer) c.add.ensures
          was.figures;
      moved =
          moved_of was.tally c.add.new.self c.args.timed.now (counts_of was.writer) c.add.ensures
          was.figures;
    }

pub invariant_of-self : goal.invariant_of-self
invariant_of-self c =
    let was = c.args.self.now in
    record {
      writes = c.publish_moved.ensures.writer;
      within = rw c.publish_moved.ensures.first was.within;
      figures = c.publish_moved.ensures.published;
      logged =
          lines_kept was.lines (counts_of was.writer) (counts_of c.publish_moved.new.writer)
          c.publish_moved.ensures.behind was.logged;
      steps =
          steps_kept was.connections (counts_of was.writer) (counts_of c.publish_moved.new.writer)
          c.publish_moved.ensures.behind was.steps;
    }
