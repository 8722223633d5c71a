use Rattle.std.proofs.Common.{◌≤◌, ◌∙◌, length, sym, ap, subst, arith}
use mathlib.Core.List.{IsPrefix}
use Rattle.snap_cell.proofs.Prefixes.{prefix_whole}
use Rattle.snap_cell.proofs.rule.Door.enter_exactly.Goals as goal

pub returns-clause-entered : goal.returns-clause-entered
returns-clause-entered g c =
    let known = c.args.known.now in
    let y = c.in_ok-reading.reading.reading.part.value in
    let e = c.in_ok-reading.ensures in
    let begins : IsPrefix known.seen.log y.known.seen.log =
    subst (λ p. IsPrefix known.seen.log p.seen.log)
    (c.newer.ensures.other ∙ ap (λ k. k.known) c.get-2.ensures) c.newer.ensures.this in
    let short : length y.known.seen.log ≤ length known.seen.log =
    omega (
      arith,
      y.known.counted,
      known.counted,
      ap (λ k. k.known.count) c.get.ensures,
      c.if-get-known.false,
    ) in (
      e.0.1,
      e.0.2 c.args.origin.now c.requires.cell,
      sym (prefix_whole known.seen.log y.known.seen.log begins short),
    )
