use Rattle.weave.proofs.Picking.{place_told}
use Rattle.weave.proofs.world.World.place.Goals as goal

pub returns : goal.returns
returns c = place_told c.args.self.now c.requires c.place.result c.place.ensures
