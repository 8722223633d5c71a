use Rattle.dtab_index.proofs.WordBits.{places_from}
use Rattle.dtab_index.proofs.bits.Bits.from.Goals as goal

pub returns : goal.returns
returns c = λ place past few. places_from c.args.first c.requires place past few
