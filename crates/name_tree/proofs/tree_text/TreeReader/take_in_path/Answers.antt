use Rattle.std.proofs.Common.{◌≡◌, sym}
use Rattle.name_tree.specs.TreeReading.{behind_branch, next, walk as at_walk}
use Rattle.name_tree.specs.TreeReaders.{place_of, state_of, walk_in}
use Rattle.name_tree.proofs.PathEnds.{behind_walk}
use Rattle.name_tree.proofs.tree_text.TreeReader.take_in_path.Goals as goal

pub returns : goal.returns
returns c =
    let e : next (place_of c.args.self.now) (at_walk c.args.weight (walk_in c.args.self.now))
    c.args.byte ≡ behind_branch (place_of c.end_path.new.self) c.args.byte
    = behind_walk (place_of c.args.self.now) c.args.weight (walk_in c.args.self.now) c.args.byte
    (state_of c.end_path.new.self) (sym c.if-is_in_paths.ensures) c.in_ok-end_path.ensures in
    rw e c.take_behind.ensures
