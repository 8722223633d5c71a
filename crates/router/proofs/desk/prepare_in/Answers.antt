use Rattle.std.proofs.Common.{rules, ◌≡◌, IfOk, IfSome}
use Rattle.machine.specs.Code.{change_of, ready_of, reply_value}
use Rattle.machine.specs.Ready.{IsReadyFor}
use Rattle.machine.specs.State.{reply_of}
use Rattle.snap_cell.specs.Guards.{whole_value}
use Rattle.snap_cell.specs.Writers.{published_by, opening_written}
use Rattle.router.proofs.Entering.{whole_is, whole_place, whole_told}
use Rattle.router.proofs.desk.prepare_in.Goals as goal

pub returns-clause-whole : goal.returns-clause-whole
returns-clause-whole g c = whole_is (opening_written c.args.writer.now)
    (published_by c.args.writer.now) c.requires.empty c.value-whole.ensures.legal.fit

pub returns-clause-place : goal.returns-clause-place
returns-clause-place g c = whole_place (opening_written c.args.writer.now)
    (published_by c.args.writer.now) c.requires.empty c.value-whole.ensures.legal.fit

pub returns-clause-reply : goal.returns-clause-reply
returns-clause-reply g c =
    let h = whole_told (whole_value c.value-whole.result) (opening_written c.args.writer.now)
    (published_by c.args.writer.now) c.requires.empty c.value-whole.ensures.value
    c.value-whole.ensures.legal.fit
    (λ S t. IfOk c.prepare-prepared.result
    (λ p. reply_value p.0 ≡ reply_of S t (change_of c.args.change.now))) _ _
    c.get-current.result.now c.get-current.ensures c.settings.ensures c.state.ensures
    c.prepare-prepared.ensures.reply in
    search (rules, h)

pub returns-clause-ready : goal.returns-clause-ready
returns-clause-ready g c =
    let h = whole_told (whole_value c.value-whole.result) (opening_written c.args.writer.now)
    (published_by c.args.writer.now) c.requires.empty c.value-whole.ensures.value
    c.value-whole.ensures.legal.fit
    (λ S t. IfOk c.prepare-prepared.result
    (λ p. IfSome p.1 (λ ready. IsReadyFor S t (change_of c.args.change.now) (ready_of ready)))) _ _
    c.get-current.result.now c.get-current.ensures c.settings.ensures c.state.ensures
    c.prepare-prepared.ensures.ready in
    search (rules, h)
