use Rattle.std.proofs.Common.{ℕ, sym, subst, ◌∙◌}
use Rattle.http_wire.specs.declared.section.Place.TheVariants.{Start, Value, ValueReturn}
use Rattle.http_wire.specs.Places.{Leads}
use Rattle.http_wire.proofs.Leading.{value_line, value_behind, value_more, value_other}
use Rattle.http_wire.proofs.section.value.Goals as goal

pub returns-then-byte-eq10 : goal.returns-then-byte-eq10
returns-then-byte-eq10 c = subst (λ (b : ℕ). Leads Value b Start)
    (sym c.if-byte-eq10.true) value_line

pub returns-then-byte-eq13 : goal.returns-then-byte-eq13
returns-then-byte-eq13 c = subst (λ (b : ℕ). Leads Value b ValueReturn)
    (sym c.if-byte-eq13.true) value_behind

pub returns-then-is_header_value_token : goal.returns-then-is_header_value_token
returns-then-is_header_value_token c =
    value_more c.args.byte (sym c.is_header_value_token.ensures ∙ c.if-is_header_value_token.true)

pub returns-else-is_header_value_token : goal.returns-else-is_header_value_token
returns-else-is_header_value_token c =
    value_other c.args.byte c.if-byte-eq10.false c.if-byte-eq13.false
    (sym c.is_header_value_token.ensures ∙ c.if-is_header_value_token.false)
