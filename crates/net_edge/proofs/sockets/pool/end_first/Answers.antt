use Rattle.std.proofs.Common.{◌≡◌, ◌+◌, length, ap, ◌∙◌, arith}
use Rattle.std.proofs.lemmas.List.Edits.{length-remove}
use Rattle.line_base.proofs.Kept.{some_all, some_taken, taken_at}
use Rattle.net_edge.specs.Pools.{address_of, addresses}
use Rattle.net_edge.proofs.sockets.pool.end_first.Goals as goal

pub returns-then-is_empty-clause-others : goal.returns-then-is_empty-clause-others
returns-then-is_empty-clause-others c = some_all (addresses c.args.kept.now.items)

pub returns-clause-others : goal.returns-clause-others
returns-clause-others c =
    some_taken address_of c.remove-first.result c.args.kept.now.items c.remove-first.new.self.items
    (taken_at c.remove-first.result c.args.kept.now.items c.remove-first.new.self.items 0
    (omega (arith, c.is_empty.ensures, c.if-is_empty.false, c.args.kept.now.ok.0))
    c.remove-first.ensures.value c.remove-first.ensures.items)

pub returns-clause-fewer : goal.returns-clause-fewer
returns-clause-fewer c = λ some.
    let cut : length c.remove-first.new.self.items + 1 ≡ length c.args.kept.now.items =
    ap (λ xs. length xs + 1) c.remove-first.ensures.items
    ∙ length-remove c.args.kept.now.items 0 some in
    omega (arith, cut)
