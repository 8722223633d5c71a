use Rattle.std.proofs.Common.{List, ℕ, All, Some, ap, arith, sym, subst}
use Rattle.std.specs.Prelude.{Option}
use Rattle.std.proofs.lemmas.List.Elements.{All-push}
use Rattle.count_words.specs.Seats.{words_of}
use Rattle.line_base.specs.Clocks.{Begins}
use Rattle.scrape.specs.declared.scraper.Scraper.{Scraper}
use Rattle.linker_commands.specs.Recorded.{IsScraperOf, scraping_of}
use Rattle.linker_commands.proofs.recording.make_scrapers.Goals as goal

pub scrapers-preserved : goal.scrapers-preserved
scrapers-preserved g c =
    let l = c.scrapers in
    let moments = g.C.Clock.of_fork c.args.recording.now.clock.now in
    let Is = λ (s : Scraper g.row.C.Denot). IsScraperOf
    moments (words_of c.args.recording.now.counts.now)
    c.args.workers (scraping_of g.C.Clock.to_come s) in
    let made = c.new.ensures in
    record {
      count = omega (arith, c.in_ok-push.ensures.len, c.scrapers-test.true, c.len.ensures);
      reader = search;
      scrape = subst (All Is) (sym c.in_ok-push.ensures.items)
          (All-push Is l.scrapers.items c.new.result l.invariant.scrape
          (record {
            forked = subst (λ (m : Option (List ℕ)). Begins moments m)
                (ap (λ (clock : g.row.C.Denot). g.C.Clock.to_come clock) (sym made.clock))
                c.fork-clock.ensures.0;
            words_are = ap Some made.words;
            size = made.size;
          }));
    }
