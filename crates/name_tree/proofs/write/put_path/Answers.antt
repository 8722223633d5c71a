use Rattle.std.proofs.Common.{arith}
use Rattle.name_tree.proofs.Growing.{grows_behind}
use Rattle.name_tree.proofs.LabelLists.{put_more}
use Rattle.name_tree.proofs.write.put_path.Goals as goal

pub loop-at-preserved : goal.loop-at-preserved
loop-at-preserved c = put_more _ _ _ c.args.path.now c.loop-at.at c.label.result.now
    (omega arith) c.label.ensures c.loop-at.invariant c.in_ok-put_label.ensures.ok

pub returns-in_err-put_label-clause-grows : goal.returns-in_err-put_label-clause-grows
returns-in_err-put_label-clause-grows c =
    grows_behind _ _ _ _ c.loop-at.invariant c.put_label.ensures.grows
