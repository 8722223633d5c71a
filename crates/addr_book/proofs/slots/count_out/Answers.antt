use Rattle.std.proofs.Common.{ap, ◌∙◌}
use Rattle.std.specs.Prelude.{unwrap_or}
use Rattle.addr_book.proofs.SlotSteps.{counted_out}
use Rattle.addr_book.proofs.slots.count_out.Goals as goal

pub loop-item-preserved : goal.loop-item-preserved
loop-item-preserved c =
    counted_out c.args.list.now c.loop-item.item-index _ c.loop-item-test.true c.requires.distinct
    c.args.uses c.loop-item.counts c.loop-item.invariant c.unwrap_or-count.result
    (c.unwrap_or-count.ensures ∙ ap (λ x. unwrap_or x 0) c.get.ensures) _ c.saturating_sub.ensures
    _ c.in_ok-counts.ensures
