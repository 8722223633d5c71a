use Rattle.std.proofs.Common.{◌∙◌}
use Rattle.own_reply.proofs.Joined.{head_joined}
use Rattle.own_reply.proofs.reply.push_head.Goals as goal

pub returns : goal.returns
returns c =
    head_joined c.args.err c.args.closing _ c.push_status_line.new.reply.items
    c.push_line.new.head.items
    c.push_line-2.new.head.items c.push_length.new.reply.items c.push_connection.new.reply.items _
    c.as_bytes.result.now
    (c.as_bytes.ensures.value ∙ c.text.ensures) c.in_ok-push_status_line.ensures
    c.in_ok-push_line.ensures c.in_ok-push_line-2.ensures c.in_ok-push_length.ensures
    c.in_ok-push_connection.ensures c.in_ok-end_line.ensures
