use Rattle.std.proofs.Common.{◌∙◌}
use Rattle.dtab_table.proofs.Matches.{all_labels}
use Rattle.dtab_table.proofs.prefix.Prefix.patterns.Goals as goal

pub returns : goal.returns
returns c = c.loop-label.invariant ∙ all_labels c.deref-label-items.result.now
    c.self.inside.labels.items c.loop-label.label-index c.args.self.now c.loop-label-test.false
    c.deref-label-items.ensures.value c.self.view_is
