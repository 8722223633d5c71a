use Rattle.std.proofs.Common.{◌∙◌, arith}
use Rattle.name_tree.proofs.FlatPaths.{start_before}
use Rattle.name_tree.proofs.label_ends.LabelEnds.start.Goals as goal

pub returns-else-at-eq0 : goal.returns-else-at-eq0
returns-else-at-eq0 c = c.end.ensures
    ∙ start_before c.args.self.now c.args.at (omega (arith, c.if-at-eq0.false)) c.requires
