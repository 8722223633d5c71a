use Rattle.std.proofs.Common.{◌∙◌, ap, List}
use Rattle.name_tree.specs.Path.{Labels}
use Rattle.dtab_table.specs.Rules.{Rule}
use Rattle.dtab_table.specs.Dtab.{rules_of}
use Rattle.bind_cache.specs.Stored.{kept_of}
use Rattle.bind_cache.specs.Bindings.{bindings_of}
use Rattle.bind_cache.specs.Cache.{found_in}
use Rattle.weave.proofs.Keeping.{had_is}
use Rattle.weave.proofs.world.World.is_had.Goals as goal

pub returns : goal.returns
returns c =
    let old = c.args.self.now in
    let k = kept_of c.args.binding.now in
    c.is_some.ensures
    ∙ had_is old k _ c.find.result c.requires
    (c.find.ensures ∙ (ap
    (λ (p : Labels). found_in (bindings_of old.cache) p (rules_of c.local.result.now))
    c.path.ensures ∙ ap (λ (rs : List Rule). found_in (bindings_of old.cache) k.path rs)
    c.local.ensures))
