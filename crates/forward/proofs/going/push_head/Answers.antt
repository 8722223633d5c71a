use Rattle.forward.proofs.Joined.{head_joined}
use Rattle.forward.proofs.going.push_head.Goals as goal

pub returns : goal.returns
returns c =
    head_joined c.args.head.now c.args.to.now c.args.out.now.items c.push_request.new.out.items
    c.push_own.new.out.items c.end_line.new.head.items c.in_ok-push_request.ensures
    c.in_ok-push_own.ensures c.in_ok-end_line.ensures
