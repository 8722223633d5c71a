use Rattle.std.proofs.Common.{ap, ◌∙◌}
use Rattle.snap_cell.specs.Views.{seen_of}
use Rattle.snap_cell.specs.Writers.{told_by}
use Rattle.router.specs.Update.{operations_of}
use Rattle.router.proofs.Calling.{prefix_values}
use Rattle.router.proofs.Readers.{reader_saw}
use Rattle.router.proofs.Telling.{longer_values, place_of_both}
use Rattle.router.proofs.pass.Pass.learn.Goals as goal

pub invariant_of-self-clause-stands : goal.invariant_of-self-clause-stands
invariant_of-self-clause-stands g c =
    let p = c.args.self.now in
    let t = c.args.ticket in
    let e = c.learn.ensures in
    let both = place_of_both p.place t.place (seen_of p.reader) (told_by t.note)
    (seen_of c.learn.new.self) p.stands.place_is t.place_is e.before e.told e.seen in
    reader_saw g.J.Naming.settings p.reader c.learn.new.self p.made p.kept p.place c.max-self.result
    p.stands e.same.0 (c.max-self.ensures ∙ both) e.before e.item

pub returns-clause-seen : goal.returns-clause-seen
returns-clause-seen g c =
    ap operations_of c.learn.ensures.seen
    ∙ longer_values (seen_of c.args.self.now.reader) (told_by c.args.ticket.note)

pub returns-clause-told : goal.returns-clause-told
returns-clause-told g c =
    prefix_values (told_by c.args.ticket.note) (seen_of c.learn.new.self) c.learn.ensures.told
