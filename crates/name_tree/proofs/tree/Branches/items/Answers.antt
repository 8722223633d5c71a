use Rattle.std.proofs.Common.{sym, ap, ◌∙◌}
use Rattle.name_tree.specs.Tree.{listed}
use Rattle.name_tree.proofs.Bridge.{branches_of-out}
use Rattle.name_tree.proofs.tree.Branches.items.Goals as goal

pub returns : goal.returns
returns c = branches_of-out c.args.self.now ∙ ap listed (sym c.as_slice.ensures.value)
