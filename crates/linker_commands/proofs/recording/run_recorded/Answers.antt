use Rattle.std.proofs.Common.{List, map, ap, ◌∙◌}
use Rattle.std.proofs.lemmas.List.Elements.{All-map}
use Rattle.std.specs.Prelude.{Option}
use Rattle.line_log.specs.Logged.{Logged}
use Rattle.worker_record.specs.Recording.{RecordValue}
use Rattle.linker_commands.specs.Recorded.{IsScraperOf, scraping_of, with_logs}
use Rattle.linker_commands.proofs.recording.run_recorded.Goals as goal

pub returns-in-Ok-close_journals-clause-served : goal.returns-in-Ok-close_journals-clause-served
returns-in-Ok-close_journals-clause-served g c = λ loaded seen.
    let made = c.in-Ok-make_instruments in
    let ran = c.in-Ok-run in
    let told_of = scraping_of g.C.Clock.to_come in
    let scrapers = made.instruments.scrapers.items in
    let first : List RecordValue = made.instruments.recorders.items in
    let last : List RecordValue = ran.records.items in
    record {
      words = _;
      first = first;
      new = made.ensures.new;
      seats = made.ensures.seats;
      last = last;
      scrapers = map told_of scrapers;
      scrape = All-map (IsScraperOf (g.C.Clock.of_fork c.args.clock.now) _
          c.args.logged.now.site.workers) told_of scrapers made.ensures.scrape;
      whole = ran.ensures.served loaded seen;
      logs_are = c.in-Ok-close_journals.ensures
          ∙ ap (λ (logs : Option (List Logged)). with_logs logs last) made.ensures.closed;
    }

pub returns-clause-kept : goal.returns-clause-kept
returns-clause-kept g c = λ other. c.in-Err-run.ensures.kept (λ is. other (cc is))
