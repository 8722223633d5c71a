use Rattle.std.proofs.Common.{◌≡◌, length, take}
use Rattle.dtab_check.specs.Indexed.{Marks}
use Rattle.dtab_check.proofs.indexed.mark.Given as goal

abbrev pub invariant-loop-place : goal.invariant-loop-place
invariant-loop-place l = record {
  marks : Marks l.fn.met.items l.met.items (take l.place-index l.places);
  size : length l.met.items ≡ length l.fn.met.items;
}
