use Rattle.std.proofs.Common.{◌≡◌, ◌≤◌, ◌++◌, length}
use Rattle.std.specs.Prelude.{sum_by}
use Rattle.std.specs.Vec.Iter.{into_iter_items}
use Rattle.waiting.specs.Hands.{left_by, taken_by}
use Rattle.waiting.proofs.lot.gather.Given as goal

abbrev pub invariant-loop-hand : goal.invariant-loop-hand
invariant-loop-hand g l =
    (l.yielded ++ into_iter_items l.hand-iterator ≡ into_iter_items l.initial.hand-iterator)
    × (l.left.parts ≡ length l.yielded)
    × (l.left.parts ≤ g.A.Ledger.parts)
    × (l.left.amount ≡ sum_by left_by l.yielded)
    × (l.taken.parts ≡ length l.yielded)
    × (l.taken.parts ≤ g.B.Ledger.parts)
    × (l.taken.amount ≡ sum_by taken_by l.yielded)
