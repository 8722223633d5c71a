use Rattle.std.proofs.Common.{Err, ap, ◌∙◌}
use Rattle.http_wire.proofs.Tokens.{same_token}
use Rattle.http_wire.proofs.parse.method_of.Goals as goal

pub unreachable-requires : goal.unreachable-requires
unreachable-requires c =
    c.from_bytes.ensures.invalid.0 (c.in-Err-Invalid.is ∙ ap Err c.in-Err-Invalid.field-0-is)
    (same_token c.args.token.now c.requires)
