use Rattle.std.proofs.Common.{ap, refl, subst, sym}
use Rattle.machine.specs.Values.{get_table}
use Rattle.api_wire.specs.Demand.{demand_value}
use Rattle.api_sessions.specs.Answering.{IsCarriedOut, IsShown, Leaves, MayHaveLooked}
use Rattle.api_sessions.specs.Answering.{sources_of}
use Rattle.api_sessions.specs.Asked.{IsSoundAsked, asked_value, demand, feed, metrics}
use Rattle.api_sessions.proofs.Doing.{done_as, left_as, left_unscraped, may_have, unscraped}
use Rattle.api_sessions.proofs.answering.do_asked.Goals as goal

pub carry_out-requires : goal.carry_out-requires
carry_out-requires g c = subst IsSoundAsked (ap asked_value c.in-Demand.is) c.requires

pub returns-in-Metrics-clause-done : goal.returns-in-Metrics-clause-done
returns-in-Metrics-clause-done g c =
    let told = g.X.Scrape.told in
    done_as (sources_of c.args.pass.now (told c.args.scraper.now))
    (sources_of c.tell_metrics.new.pass (told c.tell_metrics.new.scraper)) c.tell_metrics.result
    metrics _ c.args.delivery c.args.delivery (ap asked_value (sym c.in-Metrics.is)) refl
    c.tell_metrics.ensures.scraped

pub returns-in-Metrics-clause-want : goal.returns-in-Metrics-clause-want
returns-in-Metrics-clause-want g c =
    let told = g.X.Scrape.told in
    let old = sources_of c.args.pass.now (told c.args.scraper.now) in
    let new = sources_of c.tell_metrics.new.pass (told c.tell_metrics.new.scraper) in
    left_as old new c.tell_metrics.result metrics _ (ap asked_value (sym c.in-Metrics.is))
    (may_have old new c.tell_metrics.result c.tell_metrics.ensures.want)

pub returns-in-Demand-clause-done : goal.returns-in-Demand-clause-done
returns-in-Demand-clause-done g c =
    let d = demand_value c.in-Demand.demand in
    let told = g.X.Scrape.told c.args.scraper.now in
    done_as (sources_of c.args.pass.now told) (sources_of c.carry_out.new.pass told)
    c.carry_out.result (demand d) _ c.args.delivery c.args.delivery
    (ap asked_value (sym c.in-Demand.is)) refl
    (unscraped (IsCarriedOut d c.args.delivery c.args.pass.now c.carry_out.new.pass) told
    c.carry_out.result c.carry_out.ensures.done)

pub returns-in-Demand-clause-want : goal.returns-in-Demand-clause-want
returns-in-Demand-clause-want g c =
    let d = demand_value c.in-Demand.demand in
    let told = g.X.Scrape.told c.args.scraper.now in
    left_as (sources_of c.args.pass.now told) (sources_of c.carry_out.new.pass told)
    c.carry_out.result (demand d) _ (ap asked_value (sym c.in-Demand.is))
    (left_unscraped (Leaves d c.args.pass.now c.carry_out.new.pass) told c.carry_out.result
    c.carry_out.ensures.want)

pub returns-in-Feed-clause-done : goal.returns-in-Feed-clause-done
returns-in-Feed-clause-done g c =
    let run = c.in-Feed.run' in
    let space = c.in-Feed.name in
    let told = g.X.Scrape.told c.args.scraper.now in
    done_as (sources_of c.args.pass.now told) (sources_of c.show.new.pass told)
    c.show.result (feed run space) _ c.args.delivery c.args.delivery
    (ap asked_value (sym c.in-Feed.is)) refl
    (unscraped (IsShown run space c.args.delivery c.args.pass.now c.show.new.pass) told
    c.show.result c.show.ensures.shown)

pub returns-in-Feed-clause-want : goal.returns-in-Feed-clause-want
returns-in-Feed-clause-want g c =
    let run = c.in-Feed.run' in
    let space = c.in-Feed.name in
    let told = g.X.Scrape.told c.args.scraper.now in
    left_as (sources_of c.args.pass.now told) (sources_of c.show.new.pass told)
    c.show.result (feed run space) _ (ap asked_value (sym c.in-Feed.is))
    (left_unscraped (MayHaveLooked (get_table space) c.args.pass.now c.show.new.pass) told
    c.show.result c.show.ensures.want)
