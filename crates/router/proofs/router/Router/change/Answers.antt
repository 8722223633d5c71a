use Rattle.machine.specs.Code.{change_of}
use Rattle.router.proofs.Accepting.{changed_if_later, counts_if_later}
use Rattle.router.proofs.router.Router.change.Goals as goal

pub returns-clause-changed : goal.returns-clause-changed
returns-clause-changed g c =
    let e = c.in_default.ensures in
    changed_if_later c.args.pass.now c.report.new.pass c.change-reply.new.pass e.unanswered
    c.report.ensures.number e.counts.0 e.counts.1
    (change_of c.args.change) c.change-reply.result c.change-reply.ensures.changed

pub returns-clause-none : goal.returns-clause-none
returns-clause-none g c =
    let e = c.in_default.ensures in
    counts_if_later c.args.pass.now c.report.new.pass c.change-reply.new.pass e.unanswered
    c.report.ensures.number e.counts.0 e.counts.1
    c.change-reply.result c.change-reply.ensures.counts
