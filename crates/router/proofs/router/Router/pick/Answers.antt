use Rattle.std.proofs.Common.{refl}
use Rattle.load_words.specs.Seats.{reads_of}
use Rattle.machine.specs.Code.{ask_of}
use Rattle.router_log.specs.Call.{asked}
use Rattle.router.specs.Views.{settings_by, seen_by}
use Rattle.router.proofs.Answering.{fresh_worked_out, both_err, read_by_name, asked_entered}
use Rattle.router.proofs.Answering.{picks_by}
use Rattle.router.proofs.Readers.{reader_entered, asked_nothing}
use Rattle.router.proofs.router.Router.pick.Goals as goal

pub invariant_of-pass-in-Some-clause-stands : goal.invariant_of-pass-in-Some-clause-stands
invariant_of-pass-in-Some-clause-stands g c =
    let p = c.args.pass.now in
    let e = c.in-Some.ensures.entered in
    reader_entered g.J.Naming.settings p.reader c.pick_through.new.reader p.made p.kept p.place
    c.in-Some.place p.stands e.same c.in-Some.ensures.place (asked (ask_of c.args.ask.now))
    (asked_nothing g.J.Naming.settings (ask_of c.args.ask.now)) e

pub returns-in-Some-clause-fresh : goal.returns-in-Some-clause-fresh
returns-in-Some-clause-fresh g c =
    fresh_worked_out (settings_by c.args.pass.now.reader) g.J.Naming.settings
    (seen_by c.pick_through.new.reader) c.in-Some.answer c.in-Some.place
    (ask_of c.args.ask.now) _ _ c.args.pass.now.settings c.in-Some.ensures.answer

pub returns-in-Some-clause-want : goal.returns-in-Some-clause-want
returns-in-Some-clause-want g c =
    let p = c.args.pass.now in
    let e = c.in-Some.ensures in
    both_err c.in-Some.answer _ _
    (asked_entered p _ (ask_of c.args.ask.now) e.entered refl refl c.pick_through.ensures.taken
    c.pick_through.ensures.slot)
    (read_by_name (settings_by p.reader) g.J.Naming.settings
    (seen_by c.pick_through.new.reader) c.in-Some.answer (ask_of c.args.ask.now) (reads_of p.seat)
    (reads_of c.pick_through.new.seat) p.settings e.err)

pub returns-in-Some-clause-said : goal.returns-in-Some-clause-said
returns-in-Some-clause-said g c =
    let p = c.args.pass.now in
    let e = c.in-Some.ensures in
    let entered = asked_entered p _ (ask_of c.args.ask.now) e.entered refl refl
    c.pick_through.ensures.taken c.pick_through.ensures.slot in
    picks_by p _ (ask_of c.args.ask.now) (settings_by p.reader) c.in-Some.answer c.in-Some.place
    p.settings e.place entered e.answer
