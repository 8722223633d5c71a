use Rattle.std.proofs.Common.{◌≡◌, ◌++◌, take, drop}
use Rattle.name_tree.specs.FlatPath.{moved}
use Rattle.name_tree.proofs.label_ends.LabelEnds.put_moved.Given as goal

abbrev pub invariant-loop-at : goal.invariant-loop-at
invariant-loop-at l = l.self ≡ l.fn.self ++ moved l.old l.new (take l.at (drop l.from l.others))
