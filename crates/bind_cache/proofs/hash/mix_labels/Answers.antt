use Rattle.std.proofs.Common.{◌∙◌, sym, arith, List, ℕ}
use Rattle.std.proofs.lemmas.List.{at_drop_all}
use Rattle.bind_cache.specs.Hash.{with_labels}
use Rattle.bind_cache.proofs.Hashing.{label_mixed}
use Rattle.bind_cache.proofs.hash.mix_labels.Goals as goal

pub loop-at-preserved : goal.loop-at-preserved
loop-at-preserved c = label_mixed c.args.path.now c.loop-at.at c.loop-at.all c.mix_label-all.result
    c.label.result.now c.label.ensures c.mix_label-all.ensures ∙ c.loop-at.invariant

pub returns : goal.returns
returns c =
    sym (at_drop_all (λ (ls : List (List ℕ)). with_labels c.loop-at.all ls) c.args.path.now
    c.loop-at.at (omega (arith, c.loop-at-test.false))) ∙ c.loop-at.invariant
