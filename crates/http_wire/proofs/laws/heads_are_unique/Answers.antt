use Rattle.http_wire.proofs.Excluding.{heads_are_unique, reply_heads_are_unique}
use Rattle.http_wire.proofs.laws.heads_are_unique.Goals as goal

pub returns-clause-requests : goal.returns-clause-requests
returns-clause-requests c = heads_are_unique

pub returns-clause-replies : goal.returns-clause-replies
returns-clause-replies c = reply_heads_are_unique
