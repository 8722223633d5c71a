use Rattle.router.proofs.Readers.{reader_saw}
use Rattle.router.proofs.pass.Pass.glance.Goals as goal

pub invariant_of-self-in-Some-clause-stands : goal.invariant_of-self-in-Some-clause-stands
invariant_of-self-in-Some-clause-stands g c =
    let p = c.args.self.now in
    let e = c.in-Some.ensures.saw in
    reader_saw g.J.Naming.settings p.reader c.success_through.new.reader p.made p.kept p.place
    c.in-Some.place p.stands e.same c.in-Some.ensures.place e.before e.items
