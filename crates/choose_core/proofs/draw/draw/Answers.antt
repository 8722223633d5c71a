use Rattle.std.proofs.Common.{sym, ◌∙◌}
use Rattle.choose_core.specs.Sieve.{passes}
use Rattle.choose_core.proofs.Drawing.{draw_next, draw_same, drawn_weight}
use Rattle.choose_core.proofs.draw.draw.Goals as goal
use Rattle.choose_core.proofs.draw.draw.Goals.{then-passes+else-left-item, else-passes}

pub loop-index-preserved : goal.loop-index-preserved
loop-index-preserved c = elim c.if-passes.branch [
  | then-passes+else-left-item w ↦
      rw (w.left-is, w.at-is)
      (draw_next (passes c.args.sieve.now) c.args.list.now c.loop-index.index c.loop-index.at
      c.loop-index.left c.args.over _ c.loop-index-test.true c.loop-index.invariant
      (sym c.passes.ensures ∙ w.if-passes.true) w.if-left-item.false)
  | else-passes w ↦
      rw (w.left-is, w.at-is)
      (draw_same (passes c.args.sieve.now) c.args.list.now c.loop-index.index c.loop-index.at
      c.loop-index.left c.args.over _ c.loop-index-test.true c.loop-index.invariant
      (sym c.passes.ensures ∙ w.if-passes.false))
]

pub returns-then-left-item-clause-weight : goal.returns-then-left-item-clause-weight
returns-then-left-item-clause-weight c =
    drawn_weight (passes c.args.sieve.now) c.args.list.now c.loop-index.index c.loop-index.at
    c.loop-index.left c.args.over _ c.loop-index-test.true c.loop-index.invariant
    (sym c.passes.ensures ∙ c.if-passes.true)

pub passes-requires : goal.passes-requires
passes-requires c = c.requires c.loop-index.index _ c.loop-index-test.true
