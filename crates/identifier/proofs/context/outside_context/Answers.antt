use Rattle.std.proofs.Common.{not, rules}
use Rattle.std.proofs.lemmas.Fn.{filter_same}
use Rattle.http_wire.specs.declared.head.Field.{Field}
use Rattle.identifier.specs.Context.{is_context}
use Rattle.identifier.proofs.context.outside_context.Goals as goal

pub returns : goal.returns
returns c =
    filter_same _ (λ (field : Field). not (is_context field)) _ (λ x b g called. search rules) _ _
    c.retain.ensures.filtered
