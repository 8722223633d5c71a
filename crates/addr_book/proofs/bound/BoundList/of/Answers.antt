use Rattle.addr_book.proofs.Bounds.{members_of-roll}
use Rattle.addr_book.proofs.bound.BoundList.of.Goals as goal

pub returns : goal.returns
returns c = members_of-roll c.args.items
