use Rattle.std.proofs.Common.{sym, ◌∙◌}
use Rattle.std.proofs.lemmas.List.{length-map}
use Rattle.std.specs.Arc.{arc_value}
use Rattle.bind_cache.specs.Stored.{kept_of}
use Rattle.bind_cache.proofs.cache.Cache.len.Goals as goal

pub returns : goal.returns
returns c = c.len.ensures.len ∙ sym
    (length-map c.args.self.now.bindings.items (λ b. kept_of (arc_value b)))
