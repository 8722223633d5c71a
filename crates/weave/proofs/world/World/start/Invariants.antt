use Rattle.std.proofs.Common.{◌≡◌, map}
use Rattle.std.specs.Prelude.{replicate, All}
use Rattle.weave.specs.declared.pass.Pass.{Pass}
use Rattle.weave.specs.Code.{pass_of}
use Rattle.weave.specs.World.{new_pass}
use Rattle.weave.proofs.world.World.start.Given as goal

abbrev pub invariant-loop-number : goal.invariant-loop-number
invariant-loop-number l = (map pass_of l.all.items ≡ replicate l._number new_pass)
    × All (λ (p : Pass). (p.changes ≡ 0) × (p.keeps ≡ 0)) l.all.items
