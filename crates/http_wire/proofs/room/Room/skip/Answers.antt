use Rattle.http_wire.proofs.Held.{skipped}
use Rattle.http_wire.proofs.room.Room.skip.Goals as goal

pub returns : goal.returns
returns c = skipped c.args.self.now.bytes.items c.args.self.now.at c.args.self.now.end c.args.n
    c.requires
