use Rattle.std.proofs.Common.{sym, ◌∙◌}
use Rattle.count_words.specs.Seats.{counts_of}
use Rattle.exchange_tally.specs.Figures.{place_of}
use Rattle.worker_record.proofs.Steps.{none_came, none_published}
use Rattle.worker_record.proofs.published.Published.new.Goals as goal

pub invariant_of-result : goal.invariant_of-result
invariant_of-result c = record {
  writes = c.requires.writer.0;
  within = c.requires.writer.1;
  figures = λ f. c.requires.none (place_of f) ∙ sym (c.new.ensures f);
  logged = (c.requires.none 46, c.requires.none 47);
  steps =
      none_published (record { came = 0; finished = 0; left = 0; taken = 0 })
      (counts_of c.args.writer) c.requires.none none_came;
}

pub returns-clause-connections : goal.returns-clause-connections
returns-clause-connections c = none_came
