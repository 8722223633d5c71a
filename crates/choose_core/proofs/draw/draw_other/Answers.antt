use Rattle.std.proofs.Common.{sym, ◌∙◌}
use Rattle.choose_core.specs.Sieve.{passes}
use Rattle.choose_core.proofs.Drawing.{other_next, other_skip, other_same, other_here, other_end}
use Rattle.choose_core.proofs.draw.draw_other.Goals as goal
use Rattle.choose_core.proofs.draw.draw_other.Goals.{then-passes, else-passes}
use Rattle.choose_core.proofs.draw.draw_other.Goals.{then-at-out+else-left-item, else-at-out}

pub returns-then-left-item : goal.returns-then-left-item
returns-then-left-item c =
    other_here (passes c.args.sieve.now) c.args.list.now c.loop-index.index c.loop-index.at
    c.loop-index.left c.args.out c.args.over _ c.loop-index-test.true c.loop-index.invariant
    c.requires.out (sym c.passes.ensures ∙ c.if-passes.true) c.if-at-out.true c.if-left-item.true

pub returns : goal.returns
returns c = other_end (passes c.args.sieve.now) c.args.list.now c.loop-index.index c.loop-index.at
    c.loop-index.left c.args.out c.args.over c.loop-index-test.false c.requires.out
    c.loop-index.invariant

pub loop-index-preserved : goal.loop-index-preserved
loop-index-preserved c = elim c.if-passes.branch [
  | then-passes w ↦ elim w.if-at-out.branch [
    | then-at-out+else-left-item v ↦
        rw (w.left-is, w.at-is, v.left-is)
        (other_next (passes c.args.sieve.now) c.args.list.now c.loop-index.index c.loop-index.at
        c.loop-index.left c.args.out c.args.over _ c.loop-index-test.true c.loop-index.invariant
        (sym c.passes.ensures ∙ w.if-passes.true) v.if-at-out.true v.if-left-item.false)
    | else-at-out v ↦
        rw (w.left-is, w.at-is, v.left-is)
        (other_skip (passes c.args.sieve.now) c.args.list.now c.loop-index.index c.loop-index.at
        c.loop-index.left c.args.out c.args.over _ c.loop-index-test.true c.loop-index.invariant
        (sym c.passes.ensures ∙ w.if-passes.true) v.if-at-out.false)
  ]
  | else-passes w ↦
      rw (w.left-is, w.at-is)
      (other_same (passes c.args.sieve.now) c.args.list.now c.loop-index.index c.loop-index.at
      c.loop-index.left c.args.out c.args.over _ c.loop-index-test.true c.loop-index.invariant
      (sym c.passes.ensures ∙ w.if-passes.false))
]

pub passes-requires : goal.passes-requires
passes-requires c = c.requires.tells c.loop-index.index _ c.loop-index-test.true
