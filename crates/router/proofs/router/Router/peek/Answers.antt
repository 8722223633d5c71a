use Rattle.machine.specs.Code.{ask_of}
use Rattle.router_log.specs.Call.{asked}
use Rattle.router.proofs.Readers.{reader_entered, asked_nothing}
use Rattle.router.proofs.router.Router.peek.Goals as goal

pub invariant_of-pass-in-Some-clause-stands : goal.invariant_of-pass-in-Some-clause-stands
invariant_of-pass-in-Some-clause-stands g c =
    let p = c.args.pass.now in
    let e = c.in-Some.ensures.entered in
    reader_entered g.J.Naming.settings p.reader c.peek_through.new.reader p.made p.kept p.place
    c.in-Some.place p.stands e.same c.in-Some.ensures.place (asked (ask_of c.args.ask.now))
    (asked_nothing g.J.Naming.settings (ask_of c.args.ask.now)) e
