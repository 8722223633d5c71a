use Rattle.forward.proofs.Joined.{nothing_left, left_more}
use Rattle.forward.proofs.dropped.push_left.Goals as goal

pub loop-field-init : goal.loop-field-init
loop-field-init c = nothing_left _ c.args.listed.now c.args.head.now.items

pub loop-field-preserved : goal.loop-field-preserved
loop-field-preserved c =
    left_more _ c.args.listed.now c.args.fields.now c.loop-field.field-index c.field-item.result _
    _ _ c.loop-field-test.true c.field-item.is c.loop-field.invariant
    c.in_ok-push_where_left.ensures
