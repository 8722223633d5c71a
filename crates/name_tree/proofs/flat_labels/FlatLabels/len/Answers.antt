use Rattle.std.proofs.Common.{sym, ◌∙◌}
use Rattle.name_tree.proofs.FlatPaths.{labels_long}
use Rattle.name_tree.proofs.flat_labels.FlatLabels.len.Goals as goal

pub returns : goal.returns
returns c = c.len.ensures
    ∙ sym (labels_long c.self.inside.ends c.self.inside.bytes.items c.args.self.now c.self.view_is)
