use Rattle.std.proofs.Common.{arith}
use Rattle.addr_book.proofs.Bits.{has-put}
use Rattle.choose_core.proofs.bits.Bits.put.Goals as goal

pub returns : goal.returns
returns c = has-put c.args.self.now.words c.args.place (omega arith)
