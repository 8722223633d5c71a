use Rattle.std.proofs.Common.{arith}
use Rattle.name_tree.proofs.LabelLists.{label_too_long}
use Rattle.name_tree.proofs.path.left_after.Goals as goal

pub returns-then-left-len : goal.returns-then-left-len
returns-then-left-len c = label_too_long _ _ _ _ c.loop-b-test.true c.loop-b.invariant (omega arith)
