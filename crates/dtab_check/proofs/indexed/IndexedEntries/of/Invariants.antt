use Rattle.std.proofs.Common.{◌≡◌, length}
use Rattle.dtab_index.specs.Index.{AreBelow}
use Rattle.dtab_check.specs.Indexed.{AreOf, AreNoted}
use Rattle.dtab_check.proofs.indexed.IndexedEntries.of.Given as goal

abbrev pub invariant-loop-at : goal.invariant-loop-at
invariant-loop-at l = record {
  entries : AreOf l.entries l.index;
  noted : AreNoted l.entries l.index l.first.items;
  below : AreBelow l.at l.index;
  size : length l.first.items ≡ l.at;
}
