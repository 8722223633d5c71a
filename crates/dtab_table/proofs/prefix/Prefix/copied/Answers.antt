use Rattle.std.proofs.Common.{◌≡◌, ◌∙◌, List, map, refl, sym, subst}
use Rattle.dtab_table.specs.Pattern.{Pattern, pattern_of, AreFilled}
use Rattle.dtab_table.proofs.Matches.{label_copied, all_labels}
use Rattle.dtab_table.proofs.prefix.Prefix.copied.Goals as goal

pub loop-label-preserved : goal.loop-label-preserved
loop-label-preserved c =
    label_copied c.loop-label.labels.items c.push.new.self.items c.deref-label-items.result.now
    c.loop-label.label-index c.label-item.result c.in_ok-copied.field-0 c.loop-label-test.true
    c.label-item.is
    c.in_ok-copied.ensures c.in_ok-push.ensures.items c.loop-label.invariant

pub invariant_of-result : goal.invariant_of-result
invariant_of-result c =
    let whole : map pattern_of c.loop-label.labels.items ≡ map pattern_of c.self.inside.labels.items
    = c.loop-label.invariant ∙ all_labels c.deref-label-items.result.now c.self.inside.labels.items
    c.loop-label.label-index _ c.loop-label-test.false c.deref-label-items.ensures.value refl in
    subst (λ (ps : List Pattern). AreFilled ps) (sym whole) c.self.invariant

pub returns : goal.returns
returns c = c.loop-label.invariant ∙ all_labels c.deref-label-items.result.now
    c.self.inside.labels.items c.loop-label.label-index c.args.self.now c.loop-label-test.false
    c.deref-label-items.ensures.value c.self.view_is
