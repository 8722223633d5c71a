use Rattle.std.proofs.Common.{◌≡◌, ◌-◌, ◌≤◌, length, take}
use Rattle.std.specs.Io.KnownBytes.{Appends}
use Rattle.script.proofs.ends.write_all.Given as goal

abbrev pub invariant-loop-at : goal.invariant-loop-at
invariant-loop-at g l = record {
  within : l.at ≤ length l.bytes;
  given : Appends (g.K.Sink.output l.fn.sink).held (g.K.Sink.output l.sink).held
      (take l.at l.bytes);
  kept : (g.K.Sink.output l.sink).faults ≡ (g.K.Sink.output l.fn.sink).faults;
}

abbrev pub decreases-loop-at : goal.decreases-loop-at
decreases-loop-at g l = length l.bytes - l.at
