use Rattle.std.proofs.Common.{◌≡◌, length, take}
use Rattle.dtab_check.specs.Live.{paths_of}
use Rattle.dtab_check.specs.Indexed.{AreMet}
use Rattle.dtab_check.proofs.indexed.IndexedEntries.met_by.Given as goal

abbrev pub invariant-loop-leaf : goal.invariant-loop-leaf
invariant-loop-leaf l = record {
  met : AreMet l.self.index (paths_of (take l.leaf-index l.leaves)) l.met.items;
  size : length l.met.items ≡ length l.self.entries.now;
}
