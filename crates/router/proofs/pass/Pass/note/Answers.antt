use Rattle.std.proofs.Common.{[], ap}
use Rattle.std.proofs.lemmas.List.{append-nil}
use Rattle.snap_cell.specs.Views.{seen_of}
use Rattle.router.specs.Views.{call_of}
use Rattle.router.proofs.Readers.{shown_stands}
use Rattle.router.proofs.pass.Pass.note.Goals as goal

pub invariant_of-self-clause-stands : goal.invariant_of-self-clause-stands
invariant_of-self-clause-stands g c =
    let p = c.args.self.now in
    let e = c.note.ensures in
    shown_stands g.J.Naming.settings p.reader c.note.new.self p.made p.kept p.place p.stands
    e.same.0
    c.of.result (call_of c.args.call.now) (ap call_of c.of.ensures) (seen_of p.reader)
    ([], append-nil (seen_of p.reader)) e.seen e.item c.requires.none p.place p.stands.place_is
