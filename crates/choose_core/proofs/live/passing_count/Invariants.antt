use Rattle.std.proofs.Common.{◌≡◌, ◌≤◌, ◌+◌, length, drop}
use Rattle.choose_core.specs.Sieve.{passing}
use Rattle.choose_core.proofs.live.passing_count.Given as goal

abbrev pub invariant-loop-index : goal.invariant-loop-index
invariant-loop-index l = record {
  fits : l.count ≤ l.index;
  count : l.count + length (passing l.sieve (drop l.index l.list))
      ≡ length (passing l.sieve l.list);
}
