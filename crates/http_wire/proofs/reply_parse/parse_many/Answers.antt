use Rattle.std.proofs.Common.{◌∙◌}
use Rattle.http_wire.proofs.reply_parse.parse_many.Goals as goal

pub parse_into-requires : goal.parse_into-requires
parse_into-requires c = c.as_mut_slice.ensures.len ∙ c.in_ok-spans.ensures.len
    ∙ c.line_feeds.ensures
