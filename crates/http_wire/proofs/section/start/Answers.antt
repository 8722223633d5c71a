use Rattle.std.proofs.Common.{ℕ, sym, subst, ◌∙◌}
use Rattle.http_wire.specs.declared.section.Place.TheVariants.{Start, LastReturn, Ended}
use Rattle.http_wire.specs.Places.{Leads}
use Rattle.http_wire.proofs.Leading.{start_return, start_feed, start_token, start_other}
use Rattle.http_wire.proofs.section.start.Goals as goal

pub returns-then-byte-eq13 : goal.returns-then-byte-eq13
returns-then-byte-eq13 c = subst (λ (b : ℕ). Leads Start b LastReturn)
    (sym c.if-byte-eq13.true) start_return

pub returns-then-byte-eq10 : goal.returns-then-byte-eq10
returns-then-byte-eq10 c = subst (λ (b : ℕ). Leads Start b Ended)
    (sym c.if-byte-eq10.true) start_feed

pub returns-then-is_header_name_token : goal.returns-then-is_header_name_token
returns-then-is_header_name_token c =
    start_token c.args.byte (sym c.is_header_name_token.ensures ∙ c.if-is_header_name_token.true)

pub returns-else-is_header_name_token : goal.returns-else-is_header_name_token
returns-else-is_header_name_token c =
    start_other c.args.byte c.if-byte-eq13.false c.if-byte-eq10.false
    (sym c.is_header_name_token.ensures ∙ c.if-is_header_name_token.false)
