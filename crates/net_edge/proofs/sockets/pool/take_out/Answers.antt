use Rattle.std.proofs.Common.{◌≡◌, ◌+◌, ◌<◌, ap, arith, length, ◌∙◌}
use Rattle.std.proofs.lemmas.List.Edits.{length-remove}
use Rattle.line_base.proofs.Kept.{taken_at, taken_from}
use Rattle.net_edge.proofs.sockets.pool.take_out.Goals as goal

pub returns-then-is_to-clause-taken : goal.returns-then-is_to-clause-taken
returns-then-is_to-clause-taken c =
    let same = ap length c.loop-place.invariant in
    taken_from c.remove.result c.loop-place.kept.items c.args.kept.now.items c.remove.new.self.items
    c.loop-place.invariant
    (taken_at c.remove.result c.loop-place.kept.items c.remove.new.self.items c.loop-place.place
    (omega (arith, c.loop-place-test.true, c.len-place-end.ensures, c.args.kept.now.ok.0, same))
    c.remove.ensures.value c.remove.ensures.items)

pub returns-then-is_to-clause-fewer : goal.returns-then-is_to-clause-fewer
returns-then-is_to-clause-fewer c =
    let same = ap length c.loop-place.invariant in
    let within : c.loop-place.place < length c.loop-place.kept.items =
    omega (arith, c.loop-place-test.true, c.len-place-end.ensures, c.args.kept.now.ok.0, same) in
    let cut : length c.remove.new.self.items + 1 ≡ length c.loop-place.kept.items =
    ap (λ xs. length xs + 1) c.remove.ensures.items
    ∙ length-remove c.loop-place.kept.items c.loop-place.place within in
    omega (arith, cut, same)
