use Rattle.std.proofs.Common.{refl}
use Rattle.body_wire.proofs.Places.{passes}
use Rattle.body_wire.proofs.decoder.Decoder.pass.Goals as goal

pub returns : goal.returns
returns c =
    let self = c.args.self.now in
    passes self _ c.args.run c.requires.content c.requires.left self.within c.behind-self.ensures
    refl
    refl refl
