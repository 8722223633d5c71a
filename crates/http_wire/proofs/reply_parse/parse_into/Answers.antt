use Rattle.std.proofs.Common.{Err, ap}
use Rattle.http_wire.proofs.Spans.{refuses_reply}
use Rattle.http_wire.proofs.reply_parse.parse_into.Goals as goal

pub returns-in-Err : goal.returns-in-Err
returns-in-Err c =
    refuses_reply _ c.args.bytes.now c.in-Err.field-0 c.requires c.in-Err.ensures.invalid
    (λ same. c.in-Err.ensures.too_many (ap Err same))
