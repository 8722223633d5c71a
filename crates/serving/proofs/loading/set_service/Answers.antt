use Rattle.serving.proofs.Refusing.{set_refused}
use Rattle.serving.proofs.Services.{set_adds, set_makes}
use Rattle.serving.proofs.loading.set_service.Goals as goal

pub returns-then-was_set-clause-set : goal.returns-then-was_set-clause-set
returns-then-was_set-clause-set g c = let set = c.was_set.ensures.set c.if-was_set.true in
    set_adds _ _ _ _ _ _ c.in-Ok.ensures.changed set.1

pub returns-then-was_set-clause-made : goal.returns-then-was_set-clause-made
returns-then-was_set-clause-made g c = let set = c.was_set.ensures.set c.if-was_set.true in
    set_makes _ _ _ _ _ _ c.in-Ok.ensures.changed set.1

pub returns-else-was_set-clause-refused : goal.returns-else-was_set-clause-refused
returns-else-was_set-clause-refused g c =
    λ is. set_refused _ _ c.args.item _ c.in-Ok.ensures.changed
    (c.was_set.ensures.refused c.if-was_set.false)
