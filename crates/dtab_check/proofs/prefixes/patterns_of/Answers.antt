use Rattle.std.proofs.Common.{◌∙◌, ap, map, List}
use Rattle.std.proofs.lemmas.List.{take_all}
use Rattle.dtab_index.specs.Prefix.{pattern_of as indexed_pattern}
use Rattle.dtab_table.specs.Pattern.{pattern_of}
use Rattle.dtab_table.specs.declared.prefix.PrefixLabel.{PrefixLabel}
use Rattle.dtab_check.proofs.Indexing.{label-more}
use Rattle.dtab_check.proofs.prefixes.patterns_of.Goals as goal

pub loop-label-preserved : goal.loop-label-preserved
loop-label-preserved c =
    label-more pattern_of indexed_pattern c.loop-label.patterns.items c.push.new.self.items
    c.labels-labels.result.now c.loop-label.label-index c.label-item.result c.in_ok-pattern.field-0
    c.loop-label-test.true c.label-item.is c.in_ok-pattern.ensures c.in_ok-push.ensures.items
    c.loop-label.invariant

pub returns : goal.returns
returns c =
    c.loop-label.invariant
    ∙ (ap (λ (ls : List PrefixLabel). map pattern_of ls)
    (take_all c.loop-label.label-index c.labels-labels.result.now c.loop-label-test.false)
    ∙ c.labels-labels.ensures)
