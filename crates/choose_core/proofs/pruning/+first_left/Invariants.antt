use Rattle.std.proofs.Common.{◌≡◌, drop}
use Rattle.addr_book.specs.Bound.{found_of}
use Rattle.addr_book.proofs.Bounds.{found_size}
use Rattle.choose_core.proofs.Branches.{left_of}
use Rattle.choose_core.proofs.pruning.+first_left.Given as goal

abbrev pub decreases-first_left : goal.decreases-first_left
decreases-first_left l = found_size (found_of l.bound.now)

abbrev pub invariant-loop-at : goal.invariant-loop-at
invariant-loop-at l = left_of l.book.services l.items ≡ left_of l.book.services (drop l.at l.items)
