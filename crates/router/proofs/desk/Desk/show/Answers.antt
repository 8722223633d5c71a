use Rattle.std.proofs.Common.{ap, sym, ◌∙◌}
use Rattle.router_log.specs.Operation.{place_of}
use Rattle.router.specs.Update.{operations_of}
use Rattle.router.proofs.Readers.{reader_saw}
use Rattle.router.proofs.desk.Desk.show.Goals as goal

pub invariant_of-pass-clause-stands : goal.invariant_of-pass-clause-stands
invariant_of-pass-clause-stands g c =
    let e = c.catch_up.ensures in
    reader_saw g.J.Naming.settings c.args.pass.now.reader c.catch_up.new.self c.args.pass.now.made
    c.args.pass.now.kept c.args.pass.now.place c.args.self.now.place c.args.pass.now.stands e.same.0
    (c.args.self.now.place_is ∙ sym (ap (λ us. place_of (operations_of us)) e.seen)) e.before e.item
