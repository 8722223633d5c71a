use Rattle.forward.proofs.Written.{heads_read_back}
use Rattle.forward.proofs.laws.heads_read_back.Goals as goal

pub returns : goal.returns
returns c = heads_read_back
