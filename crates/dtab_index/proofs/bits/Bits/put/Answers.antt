use Rattle.std.proofs.Common.{arith}
use Rattle.dtab_index.proofs.WordBits.{has-put}
use Rattle.dtab_index.proofs.bits.Bits.put.Goals as goal

pub returns : goal.returns
returns c = has-put c.args.self.now.words c.args.place (omega arith)
