use Rattle.std.proofs.Common.{◌≤◌}
use Rattle.dtab_table.specs.TableReading.{table_start, next_state}
use Rattle.dtab_table.specs.TableReaders.{state_of, depth_of}
use Rattle.name_tree.proofs.Places.{SoFar}
use Rattle.dtab_table.proofs.read.entries_in.Given as goal

abbrev pub invariant-loop-at : goal.invariant-loop-at
invariant-loop-at l =
    record {
      stands : SoFar next_state table_start l.text l.at (state_of l.reader);
      few : depth_of l.reader ≤ 64;
    }
