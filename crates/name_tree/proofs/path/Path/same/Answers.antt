use Rattle.name_tree.proofs.FlatPaths.{same_more}
use Rattle.name_tree.proofs.path.Path.same.Goals as goal

pub loop-at-preserved : goal.loop-at-preserved
loop-at-preserved c =
    same_more c.args.self.now c.args.other.now c.loop-at.at c.label.result.now
    c.label-in-loop-at.result.now c.loop-at.invariant c.label.ensures c.label-in-loop-at.ensures
    c.if-ne.ensures
