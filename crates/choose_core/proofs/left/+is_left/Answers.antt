use Rattle.std.proofs.Common.{◌<◌, arith}
use Rattle.addr_book.specs.Bound.{found_of}
use Rattle.addr_book.proofs.Bounds.{found_size, smaller}
use Rattle.choose_core.proofs.left.+is_left.Goals as goal

pub is_left-requires : goal.is_left-requires
is_left-requires t c =
    let less : found_size (found_of c.item-item.result.bound)
    < found_size (found_of c.args.bound.now) =
    smaller c.args.bound.now c.in-Many.list _ _ _ c.in-Many.is c.items-item-items.ensures
    c.loop-item-test.true c.item-item.is in
    (omega (arith, less, c.decreases), tt)
