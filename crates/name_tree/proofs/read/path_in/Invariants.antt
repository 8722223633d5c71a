use Rattle.name_tree.specs.PathReading.{before, next_path}
use Rattle.name_tree.specs.Readers.{path_at_of}
use Rattle.name_tree.proofs.Places.{SoFar}
use Rattle.name_tree.proofs.read.path_in.Given as goal

abbrev pub invariant-loop-at : goal.invariant-loop-at
invariant-loop-at l = SoFar next_path before l.text l.at (path_at_of l.reader)
