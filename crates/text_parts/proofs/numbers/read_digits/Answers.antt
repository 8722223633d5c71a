use Rattle.std.proofs.Common.{arith, rules}
use Rattle.text_parts.proofs.Digits.{over_at}
use Rattle.text_parts.proofs.numbers.read_digits.Goals as goal

pub returns-then-longer-from-clause-value : goal.returns-then-longer-from-clause-value
returns-then-longer-from-clause-value c =
    over_at c.args.most c.loop-byte.number c.args.text.now c.loop-byte.byte-index (omega arith)
    (search rules) (omega arith) c.loop-byte.invariant.same
