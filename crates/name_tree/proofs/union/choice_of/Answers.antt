use Rattle.std.proofs.Common.{◌∙◌}
use Rattle.name_tree.proofs.Bridge.{choice_is}
use Rattle.name_tree.proofs.union.choice_of.Goals as goal

pub returns-else-len-eq1 : goal.returns-else-len-eq1
returns-else-len-eq1 c = choice_is c.args.trees.items c.of.result
    (λ one. c.if-len-eq1.false (c.len.ensures ∙ (c.args.trees.ok.0 ∙ one))) c.of.ensures
