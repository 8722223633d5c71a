use Rattle.std.proofs.Common.{ℕ, sym, subst, ◌∙◌}
use Rattle.http_wire.specs.declared.section.Place.TheVariants.{Name, Value}
use Rattle.http_wire.specs.Places.{Leads}
use Rattle.http_wire.proofs.Leading.{name_colon, name_token, name_other}
use Rattle.http_wire.proofs.section.name.Goals as goal

pub returns-then-byte-eq58 : goal.returns-then-byte-eq58
returns-then-byte-eq58 c = subst (λ (b : ℕ). Leads Name b Value)
    (sym c.if-byte-eq58.true) name_colon

pub returns-then-is_header_name_token : goal.returns-then-is_header_name_token
returns-then-is_header_name_token c =
    name_token c.args.byte (sym c.is_header_name_token.ensures ∙ c.if-is_header_name_token.true)

pub returns-else-is_header_name_token : goal.returns-else-is_header_name_token
returns-else-is_header_name_token c =
    name_other c.args.byte c.if-byte-eq58.false
    (sym c.is_header_name_token.ensures ∙ c.if-is_header_name_token.false)
