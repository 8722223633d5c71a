use Rattle.std.proofs.Common.{inl, refl}
use Rattle.api_sessions.proofs.Doing.{scraped, was_scraped}
use Rattle.api_sessions.proofs.answering.tell_metrics.Goals as goal

pub returns-in-Ok-clause-scraped : goal.returns-in-Ok-clause-scraped
returns-in-Ok-clause-scraped g c =
    let told = g.X.Scrape.told in
    scraped c.args.delivery c.args.pass.now c.look_at_services.new.pass (told c.args.scraper.now)
    (told c.moment-moment.new.self) (told c.sums-sums.new.self) c.moment-moment.result
    c.moment-moment.ensures
    c.in-Ok.told c.in-Ok.ensures.said c.sums-sums.result c.sums-sums.ensures
    c.write_metrics.result c.write_metrics.ensures

pub returns-in-Ok-clause-want : goal.returns-in-Ok-clause-want
returns-in-Ok-clause-want g c =
    let told = g.X.Scrape.told in
    was_scraped c.args.delivery c.args.pass.now c.look_at_services.new.pass
    (told c.args.scraper.now)
    (told c.moment-moment.new.self) (told c.sums-sums.new.self) c.moment-moment.result
    c.moment-moment.ensures
    c.in-Ok.told c.in-Ok.ensures.said c.sums-sums.result c.sums-sums.ensures
    c.write_metrics.result

pub returns-in-Err-clause-want : goal.returns-in-Err-clause-want
returns-in-Err-clause-want g c = record {
  moment = c.moment-moment.result;
  clocked = g.X.Scrape.told c.moment-moment.new.self;
  drawn = c.moment-moment.ensures;
  looked = c.in-Err.ensures.want;
  summed = inl refl;
}
