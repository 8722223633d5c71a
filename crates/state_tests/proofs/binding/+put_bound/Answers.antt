use Rattle.std.proofs.Common.{◌<◌, arith}
use Rattle.addr_book.specs.Bound.{found_of}
use Rattle.addr_book.proofs.Bounds.{found_size, smaller}
use Rattle.state_tests.proofs.binding.+put_bound.Goals as goal

pub put_bound-requires : goal.put_bound-requires
put_bound-requires t c =
    let less : found_size (found_of c.item-item.result.bound)
    < found_size (found_of c.args.bound.now) =
    smaller c.args.bound.now c.in-Many.list _ _ _ c.in-Many.is c.items-item-items.ensures
    c.loop-item-test.true c.item-item.is in
    (omega (arith, less, c.decreases), tt)
