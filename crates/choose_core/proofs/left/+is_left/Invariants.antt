use Rattle.std.proofs.Common.{◌≡◌, drop}
use Rattle.addr_book.specs.Bound.{found_of}
use Rattle.addr_book.proofs.Bounds.{found_size}
use Rattle.choose_core.proofs.Branches.{left_of}
use Rattle.choose_core.proofs.left.+is_left.Given as goal

abbrev pub decreases-is_left : goal.decreases-is_left
decreases-is_left l = found_size (found_of l.bound.now)

abbrev pub invariant-loop-item : goal.invariant-loop-item
invariant-loop-item l = left_of l.book.services l.item-items
    ≡ left_of l.book.services (drop l.item-index l.item-items)
