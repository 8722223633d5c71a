use Rattle.std.proofs.Common.{◌∙◌, ap, cond, Bool, Some, None, sym}
use Rattle.http_wire.proofs.FieldLemmas.{agreed_some, agreed_none}
use Rattle.http_wire.proofs.body.content_length.Goals as goal

pub returns-in-Some : goal.returns-in-Some
returns-in-Some c =
    ap (λ (b : Bool). cond b (Some c.in-Some.length) None) (sym c.if-fields_say.true)
    ∙ agreed_some c.args.fields.now _ c.in-Some.length c.fields_say.result c.items.ensures
    c.in-Some.ensures c.fields_say.ensures

pub returns-in_default : goal.returns-in_default
returns-in_default c =
    ap (λ (b : Bool). cond b (Some c.in-Some.length) None) (sym c.if-fields_say.false)
    ∙ agreed_some c.args.fields.now _ c.in-Some.length c.fields_say.result c.items.ensures
    c.in-Some.ensures c.fields_say.ensures

pub returns-in_default-2 : goal.returns-in_default-2
returns-in_default-2 c = agreed_none _ c.in_default.ensures
