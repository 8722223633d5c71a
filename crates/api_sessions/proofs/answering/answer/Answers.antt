use Rattle.std.proofs.Common.{subst, sym, ◌∙◌}
use Rattle.api_wire.specs.Delivery.{delivery_of}
use Rattle.api_sessions.specs.Answering.{sources_of}
use Rattle.api_sessions.specs.Asked.{IsSoundAsked, asked_of, asked_value}
use Rattle.api_sessions.proofs.Doing.{answers_by, asked_sound, leaves_by, leaves_nothing}
use Rattle.api_sessions.proofs.answering.answer.Goals as goal

pub do_asked-requires : goal.do_asked-requires
do_asked-requires g c =
    subst IsSoundAsked (sym (c.in-Ok.ensures c.requires.form c.requires.served))
    (asked_sound c.args.which c.args.head.now c.requires.form.line c.as_slice.result.now)

pub returns-in-Ok-clause-answered : goal.returns-in-Ok-clause-answered
returns-in-Ok-clause-answered g c =
    let told = g.X.Scrape.told in
    let body = c.as_slice.ensures.value in
    answers_by (sources_of c.args.pass.now (told c.args.scraper.now))
    (sources_of c.do_asked.new.pass (told c.do_asked.new.scraper)) c.do_asked.result
    (asked_value c.in-Ok.asked) _ c.args.which c.args.head.now c.args.last c.args.body.now.items
    (λ form served.
    ◌∙◌ {b = asked_of c.args.which c.args.head.now form.line c.as_slice.result.now}
    (c.in-Ok.ensures form served) (λ k. asked_of c.args.which c.args.head.now form.line (body k)))
    c.delivery_of.ensures c.do_asked.ensures.done

pub returns-in-Ok-clause-want : goal.returns-in-Ok-clause-want
returns-in-Ok-clause-want g c =
    let told = g.X.Scrape.told in
    let body = c.as_slice.ensures.value in
    leaves_by (sources_of c.args.pass.now (told c.args.scraper.now))
    (sources_of c.do_asked.new.pass (told c.do_asked.new.scraper)) c.do_asked.result
    (asked_value c.in-Ok.asked) c.args.which c.args.head.now c.args.body.now.items
    (λ form served.
    ◌∙◌ {b = asked_of c.args.which c.args.head.now form.line c.as_slice.result.now}
    (c.in-Ok.ensures form served) (λ k. asked_of c.args.which c.args.head.now form.line (body k)))
    c.do_asked.ensures.want

pub returns-in-Err-clause-want : goal.returns-in-Err-clause-want
returns-in-Err-clause-want g c =
    λ form served. leaves_nothing
    (asked_of c.args.which c.args.head.now form.line c.args.body.now.items)
    (sources_of c.args.pass.now (g.X.Scrape.told c.args.scraper.now))
