use Rattle.std.proofs.Common.{◌<◌, arith, refl}
use Rattle.addr_book.specs.Bound.{found_of}
use Rattle.addr_book.proofs.Bounds.{found_size, smaller}
use Rattle.choose_core.specs.Way.{way_size}
use Rattle.choose_core.proofs.Branches.{union_bounded, union_filled}
use Rattle.choose_core.proofs.Ways.{filled_there, bounded_there, branch_there, size_down}
use Rattle.choose_core.proofs.Ways.{some_below}
use Rattle.choose_core.proofs.pruning.+first_left.Goals as goal

pub first_left-choice-requires : goal.first_left-choice-requires
first_left-choice-requires t c =
    let less : found_size (found_of c.index-items-at.result.bound)
    < found_size (found_of c.args.bound.now) =
    smaller c.args.bound.now c.in-Many.list _ _ _ c.in-Many.is c.items-items.ensures
    c.loop-at-test.true c.index-items-at.is in
    let items = c.items-items.result.now in
    let filled = union_filled c.args.bound.now c.in-Many.list items c.in-Many.is
    c.items-items.ensures c.requires.filled in
    let bounded = union_bounded c.args.bound.now c.in-Many.list items c.in-Many.is
    c.items-items.ensures c.requires.bounded in (
      omega (arith, less, c.decreases),
      (
        filled_there items c.loop-at.at c.index-items-at.result c.loop-at-test.true
            c.index-items-at.is filled,
        (
          bounded_there items c.loop-at.at c.index-items-at.result c.loop-at-test.true
              c.index-items-at.is bounded.1,
          (
            branch_there items c.loop-at.at c.index-items-at.result c.loop-at-test.true
                c.index-items-at.is _ refl bounded.0 filled bounded.1,
            c.requires.way,
          ),
        ),
      ),
    )

pub returns-then-is_some-clause-size : goal.returns-then-is_some-clause-size
returns-then-is_some-clause-size t c =
    some_below c.first_left-choice.result _ _
    (size_down c.args.bound.now c.in-Many.list c.items-items.result.now c.loop-at.at
    c.index-items-at.result _ (way_size c.args.way.now) c.in-Many.is c.items-items.ensures
    c.loop-at-test.true c.index-items-at.is refl)
    c.first_left-choice.ensures.size
