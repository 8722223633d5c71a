use Rattle.std.proofs.Common.{◌≤◌, ◌∙◌, List, length, map, ap, sym, arith}
use Rattle.dtab_index.specs.Index.{matches}
use Rattle.dtab_table.specs.Pattern.{Pattern, pattern_of}
use Rattle.dtab_table.proofs.Matches.{too_few, label_fits, label_differs, all_fit}
use Rattle.dtab_table.proofs.prefix.Prefix.matches.Goals as goal

pub returns-then-len : goal.returns-then-len
returns-then-len c =
    too_few c.self.inside.labels.items c.args.path.now
    (omega (arith, c.if-len.true, c.len.ensures, c.len-2.ensures, c.self.inside.labels.ok.0))
    ∙ ap (λ (ps : List Pattern). matches ps c.args.path.now) c.self.view_is

pub returns-then-not-matches : goal.returns-then-not-matches
returns-then-not-matches c =
    let long : length c.deref-label-items.result.now ≤ length c.args.path.now =
    omega (
      arith,
      c.if-len.false,
      c.len.ensures,
      c.len-2.ensures,
      c.self.inside.labels.ok.0,
      ap length c.deref-label-items.ensures.value,
    ) in
    label_differs c.deref-label-items.result.now c.args.path.now c.loop-at.at c.label-item.result
    c.label.result.now c.loop-at.invariant c.loop-at-test.true long c.label-item.is c.label.ensures
    (sym c.matches.ensures ∙ c.if-not-matches.true)
    ∙ ap (λ (ps : List Pattern). matches ps c.args.path.now)
    (ap (map pattern_of) c.deref-label-items.ensures.value ∙ c.self.view_is)

pub loop-at-preserved : goal.loop-at-preserved
loop-at-preserved c =
    let long : length c.deref-label-items.result.now ≤ length c.args.path.now =
    omega (
      arith,
      c.if-len.false,
      c.len.ensures,
      c.len-2.ensures,
      c.self.inside.labels.ok.0,
      ap length c.deref-label-items.ensures.value,
    ) in
    label_fits c.deref-label-items.result.now c.args.path.now c.loop-at.at c.label-item.result
    c.label.result.now c.loop-at.invariant c.loop-at-test.true long c.label-item.is c.label.ensures
    (sym c.matches.ensures ∙ c.if-not-matches.false)

pub returns : goal.returns
returns c =
    all_fit c.deref-label-items.result.now c.args.path.now c.loop-at.at c.loop-at.invariant
    c.loop-at-test.false
    ∙ ap (λ (ps : List Pattern). matches ps c.args.path.now)
    (ap (map pattern_of) c.deref-label-items.ensures.value ∙ c.self.view_is)
