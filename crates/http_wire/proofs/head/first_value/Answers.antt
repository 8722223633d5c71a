use Rattle.std.proofs.Common.{refl, ap, ◌∙◌, Some}
use Rattle.http_wire.proofs.FieldLemmas.{first_value}
use Rattle.http_wire.proofs.head.first_value.Goals as goal

pub returns-in-Some : goal.returns-in-Some
returns-in-Some c = ap Some c.bytes.ensures
    ∙ first_value c.args.name.now c.args.fields.now _ _ refl c.in-Some.ensures

pub returns-in-None : goal.returns-in-None
returns-in-None c = first_value c.args.name.now c.args.fields.now _ _ refl c.in-None.ensures
