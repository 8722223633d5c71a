use Rattle.std.proofs.Common.{arith}
use Rattle.bind_cache.proofs.Chaining.{all_zero}
use Rattle.bind_cache.proofs.chains.wipe.Goals as goal

pub returns : goal.returns
returns c = all_zero c.loop-number.numbers c.loop-number.number-index
    (omega arith) c.loop-number.invariant
