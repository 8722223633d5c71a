use Rattle.name_tree.proofs.Leaning.{refuted, put_any}
use Rattle.name_tree.proofs.lean.put_alternative.Goals as goal

pub returns : goal.returns
returns c =
    put_any c.args.left.now.items c.push.new.self.items c.args.tree c.ends_choice-ends.result
    (refuted c.is_neg.result c.is_neg.ensures.1 c.if-is_neg.false) c.ends_choice-ends.ensures
    c.in_ok-push.ensures.items
