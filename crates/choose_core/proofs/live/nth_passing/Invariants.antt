use Rattle.std.proofs.Common.{◌≡◌, drop}
use Rattle.std.specs.Prelude.{slice_get}
use Rattle.choose_core.specs.Sieve.{passing}
use Rattle.choose_core.proofs.live.nth_passing.Given as goal

abbrev pub invariant-loop-index : goal.invariant-loop-index
invariant-loop-index l = slice_get (passing l.sieve (drop l.index l.list)) l.left
    ≡ slice_get (passing l.sieve l.list) l.at
