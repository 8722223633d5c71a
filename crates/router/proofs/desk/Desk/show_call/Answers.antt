use Rattle.std.proofs.Common.{ap, subst, List}
use mathlib.Core.List.{IsPrefix}
use Rattle.snap_cell.specs.Views.{seen_of}
use Rattle.snap_cell.specs.Writers.{published_by}
use Rattle.router.specs.declared.update.Update.{Update}
use Rattle.router.specs.Views.{call_of}
use Rattle.router.proofs.Readers.{shown_stands}
use Rattle.router.proofs.desk.Desk.show_call.Goals as goal

pub invariant_of-pass-clause-stands : goal.invariant_of-pass-clause-stands
invariant_of-pass-clause-stands g c =
    let e = c.catch_up.ensures in
    shown_stands g.J.Naming.settings c.args.pass.now.reader c.catch_up.new.self
    c.args.pass.now.made c.args.pass.now.kept c.args.pass.now.place c.args.pass.now.stands e.same.0
    c.of.result (call_of c.args.call.now) (ap call_of c.of.ensures)
    (published_by c.args.self.now.writer)
    (subst (λ (l : List Update). IsPrefix (seen_of c.args.pass.now.reader) l) e.seen e.before)
    e.seen e.item c.requires.none
    c.args.self.now.place c.args.self.now.place_is
