use Rattle.std.proofs.Common.{◌∙◌, sym, map}
use Rattle.std.proofs.lemmas.List.{at_drop_all}
use Rattle.dtab_table.specs.Pattern.{pattern_of}
use Rattle.bind_cache.specs.Hash.{with_patterns, with_pattern}
use Rattle.bind_cache.proofs.Hashing.{fold_more}
use Rattle.bind_cache.proofs.hash.mix_prefix.Goals as goal

pub loop-label-preserved : goal.loop-label-preserved
loop-label-preserved c =
    fold_more with_pattern pattern_of c.args.labels.now c.loop-label.label-index c.loop-label.all _
    c.label-item.result c.loop-label-test.true c.label-item.is c.mix_pattern-all.ensures
    ∙ c.loop-label.invariant

pub returns : goal.returns
returns c = sym (at_drop_all (λ xs. with_patterns c.loop-label.all (map pattern_of xs))
    c.args.labels.now c.loop-label.label-index c.loop-label-test.false) ∙ c.loop-label.invariant
