use Rattle.std.proofs.Common.{◌≡◌, ◌≤◌, ◌+◌, ◌*◌, drop}
use Rattle.std.specs.Prelude.{sum}
use Rattle.choose_core.specs.Pair.{weights_of}
use Rattle.choose_core.specs.Sieve.{passing}
use Rattle.choose_core.proofs.draw.total_weight.Given as goal

abbrev pub invariant-loop-index : goal.invariant-loop-index
invariant-loop-index l = record {
  fits : l.total ≤ 999999999999 * l.index;
  total : l.total + sum (weights_of (passing l.sieve (drop l.index l.list)))
      ≡ sum (weights_of (passing l.sieve l.list));
}
