use Rattle.std.proofs.Common.{refl, arith}
use Rattle.body_wire.proofs.Places.{begins_chunk}
use Rattle.body_wire.proofs.decoder.Decoder.begin_chunk.Goals as goal

pub returns-then-size-self : goal.returns-then-size-self
returns-then-size-self c line good sized =
    let self = c.args.self.now in
    begins_chunk self _ c.args.size line good sized c.requires.some c.requires.place
    c.if-size-self.true (let w = self.within in omega arith) refl refl refl refl
