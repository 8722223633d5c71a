use Rattle.std.proofs.Common.{rules, refl, arith}
use Rattle.body_wire.proofs.Places.{ends_chunk, moves_end_of_chunk}
use Rattle.body_wire.proofs.decoder.Decoder.chunk_end.Goals as goal

pub returns-in_ok-put_end-in-13 : goal.returns-in_ok-put_end-in-13
returns-in_ok-put_end-in-13 c =
    let self = c.args.self.now in
    moves_end_of_chunk self _ c.args.kept.now c.args.out.now.items c.put_end.new.out.items
    (let h = c.in-13 in omega arith) (search rules) (search rules)
    (ends_chunk self _ c.requires (let w = self.within in omega arith) refl refl refl refl)
    c.in_ok-put_end-in-13.ensures.ok
