use Rattle.name_tree.proofs.Leaning.{put_mark}
use Rattle.name_tree.proofs.lean.put_mark_if.Goals as goal

pub returns : goal.returns
returns c = put_mark c.args.branches.now.items c.push.new.self.items c.args.tree c.args.wanted
    c.if-not-wanted.false c.in_ok-push.ensures.items
