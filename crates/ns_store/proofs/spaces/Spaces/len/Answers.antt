use Rattle.std.proofs.Common.{arith}
use Rattle.ns_store.proofs.Finding.{len_spaces}
use Rattle.ns_store.proofs.spaces.Spaces.len.Goals as goal

pub returns : goal.returns
returns c = grind (arith, len_spaces c.args.self.now)
