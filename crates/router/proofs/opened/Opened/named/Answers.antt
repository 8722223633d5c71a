use Rattle.snap_cell.specs.Writers.{cell_written}
use Rattle.router.proofs.Starting.{ready_are, new_are}
use Rattle.router.proofs.opened.Opened.named.Goals as goal

pub close-requires : goal.close-requires
close-requires g c = record { own = λ i r at. (c.args.self.each i r at).cell }

pub passes_of-passes-requires-clause-ready : goal.passes_of-passes-requires-clause-ready
passes_of-passes-requires-clause-ready g c =
    ready_are (cell_written c.args.self.writer) g.J.Naming.cell g.J.Naming.settings
    c.args.self.readers.items c.args.self.each c.args.self.there c.args.self.empty
    c.requires.named.settings c.requires.named.cell

pub returns-clause-passes : goal.returns-clause-passes
returns-clause-passes g c =
    new_are c.passes_of-passes.result.0.items c.args.self.readers.items
    (cell_written c.args.self.writer) c.passes_of-passes.ensures.readers c.args.self.each
    c.passes_of-passes.ensures.unused
