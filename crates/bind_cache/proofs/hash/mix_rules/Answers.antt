use Rattle.std.proofs.Common.{◌∙◌, sym, map}
use Rattle.std.proofs.lemmas.List.{at_drop_all}
use Rattle.dtab_table.specs.Rules.{rule_of}
use Rattle.bind_cache.specs.Hash.{with_rules, with_rule}
use Rattle.bind_cache.proofs.Hashing.{fold_more}
use Rattle.bind_cache.proofs.hash.mix_rules.Goals as goal

pub loop-entry-preserved : goal.loop-entry-preserved
loop-entry-preserved c =
    fold_more with_rule rule_of c.args.entries.now c.loop-entry.entry-index c.loop-entry.all _
    c.entry-item.result c.loop-entry-test.true c.entry-item.is c.mix_rule-all.ensures
    ∙ c.loop-entry.invariant

pub returns : goal.returns
returns c = sym (at_drop_all (λ xs. with_rules c.loop-entry.all (map rule_of xs))
    c.args.entries.now c.loop-entry.entry-index c.loop-entry-test.false) ∙ c.loop-entry.invariant
