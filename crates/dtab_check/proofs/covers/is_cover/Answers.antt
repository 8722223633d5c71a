use Rattle.std.proofs.Common.{◌≡◌, ◌+◌, ◌-◌, ◌<◌, ℕ, length, arith, subst, sym, ◌∙◌}
use Rattle.dtab_check.proofs.Covering.{CoverFrom, too_long, both_lists, none_left, label_covers}
use Rattle.dtab_check.proofs.Covering.{label_differs, all_cover}
use Rattle.dtab_check.proofs.covers.is_cover.Goals as goal

pub returns-then-others-labels : goal.returns-then-others-labels
returns-then-others-labels c =
    too_long c.labels-labels.result.now c.labels-others.result.now c.if-others-labels.true
    ∙ both_lists c.labels-labels.result.now c.labels-others.result.now c.args.prefix.now
    c.args.other.now c.labels-labels.ensures c.labels-others.ensures

pub loop-at-init : goal.loop-at-init
loop-at-init c = record {
  rest = none_left c.labels-labels.result.now c.labels-others.result.now
      (length c.labels-labels.result.now) (omega arith);
  within = omega arith;
}

pub returns-then-not-stands_for : goal.returns-then-not-stands_for
returns-then-not-stands_for c =
    let place : ℕ = c.loop-at.at - 1 in
    let next : place + 1 ≡ c.loop-at.at = omega (arith, c.loop-at-test.true) in
    let within : place < length c.labels-labels.result.now =
    omega (arith, c.loop-at-test.true, c.loop-at.invariant.within) in
    label_differs c.labels-labels.result.now c.labels-others.result.now place c.loop-at.at
    c.index-labels-at.result c.index-others-at.result next within c.if-others-labels.false
    c.index-labels-at.is c.index-others-at.is
    (sym c.stands_for.ensures ∙ c.if-not-stands_for.true)
    ∙ both_lists c.labels-labels.result.now c.labels-others.result.now c.args.prefix.now
    c.args.other.now c.labels-labels.ensures c.labels-others.ensures

pub loop-at-preserved : goal.loop-at-preserved
loop-at-preserved c =
    let place : ℕ = c.loop-at.at - 1 in
    let next : place + 1 ≡ c.loop-at.at = omega (arith, c.loop-at-test.true) in
    let within : place < length c.labels-labels.result.now =
    omega (arith, c.loop-at-test.true, c.loop-at.invariant.within) in
    record {
      rest = label_covers c.labels-labels.result.now c.labels-others.result.now place c.loop-at.at
          c.index-labels-at.result c.index-others-at.result next within c.if-others-labels.false
          c.index-labels-at.is
          c.index-others-at.is c.loop-at.invariant.rest
          (sym c.stands_for.ensures ∙ c.if-not-stands_for.false);
      within = omega (arith, within);
    }

pub returns : goal.returns
returns c =
    let start : c.loop-at.at ≡ 0 = omega (arith, c.loop-at-test.false) in
    let P : ℕ → Type 0 = λ n. CoverFrom c.labels-labels.result.now c.labels-others.result.now n in
    all_cover c.labels-labels.result.now c.labels-others.result.now
    (subst P start c.loop-at.invariant.rest)
    ∙ both_lists c.labels-labels.result.now c.labels-others.result.now c.args.prefix.now
    c.args.other.now c.labels-labels.ensures c.labels-others.ensures
