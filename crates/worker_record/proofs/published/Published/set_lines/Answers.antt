use Rattle.std.proofs.Common.{◌≡◌, ◌<◌, ◌∙◌, List, ℕ, length, ap, arith, slice_index_or, slice_set}
use Rattle.count_words.specs.Seats.{counts_of}
use Rattle.worker_record.proofs.Lines.{figures_stay, lines_stored, lost_before, steps_stay}
use Rattle.worker_record.proofs.published.Published.set_lines.Goals as goal

pub publish-requires-clause-grows : goal.publish-requires-clause-grows
publish-requires-clause-grows c =
    omega (arith, c.args.self.now.logged.0, c.requires.written)

pub publish-requires-2-clause-within : goal.publish-requires-2-clause-within
publish-requires-2-clause-within c = rw c.publish.ensures.first c.args.self.now.within

pub publish-requires-2-clause-grows : goal.publish-requires-2-clause-grows
publish-requires-2-clause-grows c =
    let counts = counts_of c.args.self.now.writer in
    let same : slice_index_or (counts_of c.publish.new.writer) 47 0 ≡ slice_index_or counts 47 0 =
    ap (λ (xs : List ℕ). slice_index_or xs 47 0) c.publish.ensures.counts
    ∙ lost_before counts c.args.lines.written c.args.lines.lost in
    omega (arith, same, c.args.self.now.logged.1, c.requires.lost)

pub invariant_of-self : goal.invariant_of-self
invariant_of-self c =
    let was = c.args.self.now in
    let counts = counts_of was.writer in
    let stored : counts_of c.publish-2.new.writer
    ≡ slice_set (slice_set counts 46 c.args.lines.written) 47 c.args.lines.lost =
    c.publish-2.ensures.counts
    ∙ ap (λ (xs : List ℕ). slice_set xs 47 c.args.lines.lost) c.publish.ensures.counts in
    let long : 47 < length counts = omega (arith, was.writer.own) in
    record {
      writes = c.publish-2.ensures.writer;
      within = rw (c.publish-2.ensures.first, c.publish.ensures.first) was.within;
      figures = rw stored (figures_stay was.tally counts c.args.lines.written c.args.lines.lost
          was.figures);
      logged = rw stored (lines_stored counts c.args.lines.written c.args.lines.lost long);
      steps = rw stored (steps_stay counts c.args.lines.written c.args.lines.lost was.connections
          was.steps);
    }
