use Rattle.std.proofs.Common.{List, sym, subst, arith}
use Rattle.std.proofs.lemmas.List.{length-map}
use Rattle.dtab_table.specs.Answers.{IsTable}
use Rattle.dtab_table.specs.Rules.{Rule, rule_of}
use Rattle.dtab_table.proofs.read.dtab_in.Goals as goal

pub of-requires : goal.of-requires
of-requires c = omega (arith, c.in-Ok.ensures.few, length-map c.in-Ok.entries rule_of)

pub returns-in-Ok-of : goal.returns-in-Ok-of
returns-in-Ok-of c = subst (λ (rules : List Rule). IsTable c.args.text.now rules)
    (sym c.in-Ok-of.ensures) c.in-Ok.ensures
