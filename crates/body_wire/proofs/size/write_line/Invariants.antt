use Rattle.std.proofs.Common.{◌≡◌, ◌≤◌, drop, length}
use Rattle.body_wire.proofs.Digits.{Writes}
use Rattle.body_wire.proofs.size.write_line.Given as goal

abbrev pub invariant-loop-start : goal.invariant-loop-start
invariant-loop-start l = record {
  within : l.start ≤ 64;
  room : length l.line ≡ 66;
  line : Writes l.start l.left (drop l.start l.line) l.size;
}

abbrev pub decreases-loop-start : goal.decreases-loop-start
decreases-loop-start l = l.start
