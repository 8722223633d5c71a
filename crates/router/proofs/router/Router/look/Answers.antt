use Rattle.machine.specs.Code.{look_value}
use Rattle.router_log.specs.Call.{looked}
use Rattle.router.proofs.Readers.{reader_entered, looked_nothing}
use Rattle.router.proofs.router.Router.look.Goals as goal

pub invariant_of-pass-in-Some-clause-stands : goal.invariant_of-pass-in-Some-clause-stands
invariant_of-pass-in-Some-clause-stands g c =
    let p = c.args.pass.now in
    let e = c.in-Some.ensures.entered in
    reader_entered g.J.Naming.settings p.reader c.look_through.new.reader p.made p.kept p.place
    c.in-Some.point.place p.stands e.same c.in-Some.ensures.place
    (looked (look_value c.args.look.now))
    (looked_nothing g.J.Naming.settings (look_value c.args.look.now)) e
