use Rattle.std.proofs.Common.{◌≤◌, arith, inl, inr, get_or, ap, ◌∙◌}
use Rattle.text_parts.proofs.LineCuts.{cut_last, cut_feed}
use Rattle.text_parts.proofs.lines.cut_line.Goals as goal
use Rattle.text_parts.proofs.lines.cut_line.Goals.{then-end-at+then-text-end-eq13, else-end-at}
use Rattle.text_parts.proofs.lines.cut_line.Goals.{else-end-at-via-then-end-at+else-text-end-eq13}
use Rattle.text_parts.proofs.lines.cut_line.Goals.{else-end-at-via-else-end-at}

pub returns-then-end-text-clause-line : goal.returns-then-end-text-clause-line
returns-then-end-text-clause-line c =
    let e = c.feed_place-end.ensures in
    cut_last c.args.text.now c.args.at c.feed_place-end.result c.requires e.behind e.within e.none
    c.if-end-text.true

pub returns-clause-line : goal.returns-clause-line
returns-clause-line c =
    let e = c.feed_place-end.ensures in
    let behind : c.args.at ≤ c.if-end-at.stop =
    elim c.if-end-at.branch
    [ then-end-at+then-text-end-eq13 w ↦ omega arith | else-end-at w ↦ omega arith ] in
    cut_feed c.args.text.now c.args.at c.feed_place-end.result c.requires e.behind e.within e.none
    c.if-end-at.stop (omega arith) (e.feed (omega arith)) behind
    (elim c.if-end-at.branch [
      | then-end-at+then-text-end-eq13 w ↦ inr
          (omega arith, ap (λ j. get_or c.args.text.now j 0) w.stop-is ∙ w.if-text-end-eq13.true)
      | else-end-at w ↦ inl (
        w.stop-is,
        λ lt cr. elim w.else-end-at.branch [
          | else-end-at-via-then-end-at+else-text-end-eq13 v ↦ v.if-text-end-eq13.false cr
          | else-end-at-via-else-end-at v ↦ absurd (omega arith)
        ],
      )
    ])
