use Rattle.name_tree.proofs.Leaning.{refuted, put_branch}
use Rattle.name_tree.proofs.lean.LeanUnion.add.Goals as goal

pub returns : goal.returns
returns c =
    put_branch c.args.self.now.branches.items c.push.new.self.items c.args.self.now.fails
    c.args.self.now.lacks c.args.weight c.args.tree
    (refuted c.is_neg.result c.is_neg.ensures.1 c.if-is_neg.false)
    (refuted c.is_fail.result c.is_fail.ensures.1 c.if-is_fail.false)
    (refuted c.is_empty.result c.is_empty.ensures.1 c.if-is_empty.false) c.in_ok-push.ensures.items
