use Rattle.std.proofs.Common.{◌/◌, get_or, refl, ap, arith}
use Rattle.std.specs.Int.RustNames.{bit_xor}
use lib.Bits.{bit_and}
use Rattle.std.proofs.lemmas.Bool.{OnTrue_from}
use Rattle.dtab_index.proofs.WordBits.{has-removed, none_made_of, made_of_more, none_made_left}
use Rattle.dtab_index.proofs.bits.Bits.remove.Goals as goal

pub loop-at-init : goal.loop-at-init
loop-at-init c = none_made_of _ c.args.self.now.words (c.args.first / 64)

pub loop-at-preserved : goal.loop-at-preserved
loop-at-preserved c =
    made_of_more _ c.args.self.now.words c.loop-at.self.words
    (c.args.first / 64) c.loop-at.at c.loop-at.all _ _ (omega arith) c.loop-at.invariant
    (ap (λ w. bit_xor w (bit_and w (get_or c.args.others.now.words c.loop-at.at 0)))
    (c.loop-at.invariant.words.rest c.loop-at.at (omega arith))) refl

pub returns-clause-none : goal.returns-clause-none
returns-clause-none c = OnTrue_from _ _
    (none_made_left _ c.args.self.now.words c.loop-at.self.words c.args.first c.loop-at.at
    c.loop-at.all (omega arith) c.loop-at.invariant)

pub returns-clause-left : goal.returns-clause-left
returns-clause-left c = λ place past few.
    has-removed c.args.self.now.words c.args.others.now.words c.loop-at.self.words place
    (c.loop-at.invariant.words.made (place / 64) (omega (arith, past)) (omega arith))
