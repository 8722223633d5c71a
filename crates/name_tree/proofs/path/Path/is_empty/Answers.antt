use Rattle.name_tree.proofs.FlatPaths.{empty_is}
use Rattle.name_tree.proofs.path.Path.is_empty.Goals as goal

pub returns : goal.returns
returns c = empty_is c.args.self.now c.len.result c.len.ensures
