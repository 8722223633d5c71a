use Rattle.std.proofs.Common.{ℕ, map, ap, ◌∙◌}
use Rattle.std.specs.declared.vec.Vec.{Vec}
use Rattle.std.specs.declared.alloc.Global.{Global}
use Rattle.forward.specs.Listed.{lowered}
use Rattle.forward.proofs.Named.{nothing_listed, listed_more}
use Rattle.forward.proofs.names.lowered_names.Goals as goal

pub loop-field-init : goal.loop-field-init
loop-field-init c = ap (map (λ (n : Vec ℕ Global). n.items)) c.new-names.ensures.items
    ∙ ap lowered nothing_listed

pub loop-field-preserved : goal.loop-field-preserved
loop-field-preserved c =
    listed_more c.args.fields.now c.loop-field.field-index c.field-item.result _ _
    c.loop-field-test.true c.field-item.is c.loop-field.invariant
    c.in_ok-push_listed.ensures
