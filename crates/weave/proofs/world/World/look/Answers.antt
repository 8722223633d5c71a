use Rattle.machine.specs.Code.{look_value, reply_value}
use Rattle.weave.proofs.Picking.{look_told}
use Rattle.weave.proofs.world.World.look.Goals as goal

pub returns-clause-told : goal.returns-clause-told
returns-clause-told g c = look_told c.args.self.now c.requires
    (look_value c.args.look.now) c.place.result (reply_value c.in_ok-reply.reply) c.place.ensures
    c.in_ok-reply.ensures
