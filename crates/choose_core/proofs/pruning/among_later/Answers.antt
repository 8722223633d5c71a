use Rattle.choose_core.proofs.Ways.{filled_there, bounded_there, size_later, some_below}
use Rattle.std.proofs.Common.{arith}
use Rattle.choose_core.proofs.pruning.among_later.Goals as goal

pub first_left-choice-requires-clause-filled : goal.first_left-choice-requires-clause-filled
first_left-choice-requires-clause-filled c =
    filled_there c.args.among.now.items.now c.loop-item.item-index c.item-item.result
    c.loop-item-test.true c.item-item.is c.requires.filled

pub first_left-choice-requires-clause-bounded : goal.first_left-choice-requires-clause-bounded
first_left-choice-requires-clause-bounded c =
    bounded_there c.args.among.now.items.now c.loop-item.item-index c.item-item.result
    c.loop-item-test.true c.item-item.is c.requires.bounded

pub returns-then-is_some-clause-size : goal.returns-then-is_some-clause-size
returns-then-is_some-clause-size c =
    some_below c.first_left-choice.result _ _
    (omega (
      arith,
      size_later c.args.among.now.items.now c.loop-item.item-index c.item-item.result
          c.loop-item-test.true c.item-item.is,
    )) c.first_left-choice.ensures.size
