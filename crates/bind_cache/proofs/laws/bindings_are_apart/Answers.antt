use Rattle.bind_cache.proofs.laws.bindings_are_apart.Goals as goal

pub returns : goal.returns
returns c = c.args.cache.now.cache
