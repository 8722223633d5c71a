use Rattle.own_reply.proofs.Read.{own_replies_are_replies}
use Rattle.own_reply.proofs.laws.own_replies_are_replies.Goals as goal

pub returns : goal.returns
returns c = own_replies_are_replies
