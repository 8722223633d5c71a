use Rattle.std.proofs.Common.{◌≤◌, ◌-◌, vec_len, All}
use Rattle.count_words.specs.Seats.{Reads, words_of}
use Rattle.scrape.specs.declared.scraper.Scraper.{Scraper}
use Rattle.linker_commands.specs.Recorded.{IsScraperOf, scraping_of}
use Rattle.linker_commands.proofs.recording.make_scrapers.Given as goal

abbrev pub invariant-scrapers : goal.invariant-scrapers
invariant-scrapers g l = record {
  count : vec_len l.scrapers ≤ l.count;
  reader : Reads l.recording.counts.now l.first;
  scrape : All (λ (s : Scraper g.row.C.Denot). IsScraperOf
      (g.C.Clock.of_fork l.recording.clock.now) (words_of l.recording.counts.now) l.workers
      (scraping_of g.C.Clock.to_come s)) l.scrapers.items;
}

abbrev pub decreases-scrapers : goal.decreases-scrapers
decreases-scrapers g l = l.count - vec_len l.scrapers
