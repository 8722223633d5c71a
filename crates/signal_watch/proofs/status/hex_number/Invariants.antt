use Rattle.std.proofs.Common.{◌≡◌, ◌<◌, ◌^◌, length}
use Rattle.signal_watch.specs.Status.{hex_number}
use Rattle.signal_watch.proofs.status.hex_number.Given as goal

abbrev pub invariant-loop-first : goal.invariant-loop-first
invariant-loop-first l = record {
  number : hex_number l.number l.rest ≡ hex_number 0 l.digits;
  fits : l.number < 2 ^ 64;
}

abbrev pub decreases-loop-first : goal.decreases-loop-first
decreases-loop-first l = length l.rest
