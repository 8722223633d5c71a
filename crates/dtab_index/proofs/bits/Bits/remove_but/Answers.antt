use Rattle.std.proofs.Common.{◌/◌, arith}
use Rattle.dtab_index.proofs.WordBits.{has-kept}
use Rattle.dtab_index.proofs.bits.Bits.remove_but.Goals as goal

pub returns : goal.returns
returns c = λ place past few. has-kept c.args.self.now.words c.args.others.now.words
    c.loop-at.self.words place c.args.kept.now.words
    (c.loop-at.invariant.made (place / 64) (omega (arith, past)) (omega arith))
