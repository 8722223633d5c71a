use Rattle.std.proofs.Common.{ap, sym, ◌∙◌}
use Rattle.bind_cache.specs.declared.binding.Binding.{Binding}
use Rattle.bind_cache.specs.Stored.{hash_in}
use Rattle.bind_cache.proofs.Turning.{chained_more}
use Rattle.bind_cache.proofs.cache.chain_all.Goals as goal

pub loop-at-preserved : goal.loop-at-preserved
loop-at-preserved c =
    chained_more hash_in c.args.bindings.now.items c.loop-at.at c.in-Some.binding.now
    c.loop-at.chains c.push.new.self c.hash.result c.loop-at.invariant (sym c.in-Some.ensures)
    (c.hash.ensures.hash ∙ ap (λ (b : Binding). b.hash) c.deref.ensures) c.push.ensures
