use Rattle.std.proofs.Common.{[], ◌≤◌, length}
use Rattle.name_tree.specs.TreeReading.{before, start, next_state}
use Rattle.name_tree.specs.TreeReaders.{place_of, state_of}
use Rattle.name_tree.proofs.Places.{SoFar}
use Rattle.name_tree.proofs.read.tree_in.Given as goal

abbrev pub invariant-loop-at : goal.invariant-loop-at
invariant-loop-at l =
    record {
      stands : SoFar next_state (before [], start) l.text l.at (state_of l.reader);
      few : length (place_of l.reader).outer ≤ 64;
    }
