use Rattle.std.proofs.Common.{ap, arith, length}
use Rattle.line_base.proofs.Kept.{taken_at, taken_from}
use Rattle.line_doubles.proofs.dialer.take_out.Goals as goal

pub returns-then-is_to-clause-taken : goal.returns-then-is_to-clause-taken
returns-then-is_to-clause-taken c =
    let same = ap length c.loop-place.invariant in
    taken_from c.remove.result c.loop-place.kept.items c.args.kept.now.items c.remove.new.self.items
    c.loop-place.invariant
    (taken_at c.remove.result c.loop-place.kept.items c.remove.new.self.items c.loop-place.place
    (omega (arith, c.loop-place-test.true, c.len-place-end.ensures, c.args.kept.now.ok.0, same))
    c.remove.ensures.value c.remove.ensures.items)
