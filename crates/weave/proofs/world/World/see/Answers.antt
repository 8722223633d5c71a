use Rattle.std.proofs.Common.{refl}
use Rattle.weave.proofs.Moving.{sees}
use Rattle.weave.proofs.world.World.see.Goals as goal

pub returns-clause-sees : goal.returns-clause-sees
returns-clause-sees c = λ p here.
    sees c.args.self.now _ c.args.number c.args.self.now.operations.len p c.index_mut.result.now
    (record c.index_mut.result.now { seen = c.args.self.now.operations.len }) c.requires.holds here
    c.index_mut.ensures.value
    c.args.self.now.operations.counted refl refl refl refl refl refl refl refl refl refl refl
