use Rattle.std.proofs.Common.{◌∙◌, ap, ◌==◌}
use Rattle.std.specs.Prelude.{not}
use Rattle.router_log.specs.Operation.{place_of}
use Rattle.weave.specs.Held.{ops_of}
use Rattle.weave.proofs.Picking.{place_told}
use Rattle.weave.proofs.world.World.is_late.Goals as goal

pub returns : goal.returns
returns c =
    ap (λ n. not (n == c.place-2.result))
    (place_told c.args.self.now c.requires c.place.result c.place.ensures)
    ∙ ap (λ n. not (place_of (ops_of c.args.self.now) == n)) c.place-2.ensures
