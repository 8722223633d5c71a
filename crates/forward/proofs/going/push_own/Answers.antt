use Rattle.std.proofs.Common.{◌∙◌}
use Rattle.forward.proofs.Joined.{own_joined}
use Rattle.forward.proofs.going.push_own.Goals as goal

pub returns : goal.returns
returns c =
    own_joined c.args.to.now c.args.minor c.as_bytes.result.now c.args.out.now.items
    c.push_line.new.head.items
    c.push_table.new.head.items c.push_service.new.head.items c.push_line-2.new.head.items
    c.push_residual.new.head.items c.push_closing.new.head.items
    (c.as_bytes.ensures.value ∙ c.via.ensures) c.in_ok-push_line.ensures c.in_ok-push_table.ensures
    c.in_ok-push_service.ensures c.in_ok-push_line-2.ensures c.in_ok-push_residual.ensures
    c.in_ok-push_closing.ensures
