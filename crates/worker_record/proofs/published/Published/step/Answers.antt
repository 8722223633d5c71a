use Rattle.std.proofs.Common.{◌≡◌, ◌<◌, ◌∙◌, ℕ, length, ap, arith, slice_set}
use Rattle.count_words.specs.Seats.{counts_of}
use Rattle.worker_record.specs.Connections.{step_place}
use Rattle.worker_record.proofs.Steps.{figures_before, lines_before, step_grows, steps_after}
use Rattle.worker_record.proofs.published.Published.step.Goals as goal

pub publish-requires-clause-grows : goal.publish-requires-clause-grows
publish-requires-clause-grows c =
    let was = c.args.self.now in
    rw (c.step_place.ensures.place, c.count-count.ensures, c.after-connections.ensures)
    (step_grows was.connections (counts_of was.writer) was.steps c.args.step)

pub invariant_of-self : goal.invariant_of-self
invariant_of-self c =
    let was = c.args.self.now in
    let counts = counts_of was.writer in
    let stored : counts_of c.publish.new.writer
    ≡ slice_set counts (step_place c.args.step) c.count-count.result =
    c.publish.ensures.counts
    ∙ ap (λ (p : ℕ). slice_set counts p c.count-count.result) c.step_place.ensures.place in
    let long : 51 < length counts = omega (arith, was.writer.own) in
    record {
      writes = c.publish.ensures.writer;
      within = rw c.publish.ensures.first was.within;
      figures = rw stored (figures_before counts c.args.step c.count-count.result was.tally
          was.figures);
      logged = rw stored (lines_before counts c.args.step c.count-count.result was.lines
          was.logged);
      steps = rw stored (steps_after was.connections c.after-connections.result counts c.args.step
          c.count-count.result was.steps long c.after-connections.ensures c.count-count.ensures);
    }
