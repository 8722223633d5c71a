use Rattle.std.proofs.Common.{ap, ◌∙◌}
use Rattle.std.specs.Prelude.{unwrap_or}
use Rattle.addr_book.proofs.SlotSteps.{released, unreleased, is_zero, is_not_zero}
use Rattle.addr_book.proofs.slots.release.Goals as goal
use Rattle.addr_book.proofs.slots.release.Goals.{then-unwrap_or-eq0+in_ok-kept, else-unwrap_or-eq0}

pub loop-item-preserved : goal.loop-item-preserved
loop-item-preserved c = λ a.
    let count = c.unwrap_or.ensures ∙ ap (λ x. unwrap_or x 0) c.get.ensures in
    elim c.if-unwrap_or-eq0.branch [
      | then-unwrap_or-eq0+in_ok-kept w ↦
          released c.args.list.now c.loop-item.item-index _ c.loop-item-test.true c.args.uses.now
          c.args.slots c.loop-item.kept c.loop-item.invariant c.if-unwrap_or-eq0.kept a
          (is_zero _ _ count w.if-unwrap_or-eq0.true) (w.kept-is ∙ w.in_ok-kept.ensures)
      | else-unwrap_or-eq0 w ↦
          unreleased c.args.list.now c.loop-item.item-index _ c.loop-item-test.true c.args.uses.now
          c.args.slots c.loop-item.kept c.loop-item.invariant c.if-unwrap_or-eq0.kept a
          (is_not_zero _ _ count w.if-unwrap_or-eq0.false) w.kept-is
    ]
