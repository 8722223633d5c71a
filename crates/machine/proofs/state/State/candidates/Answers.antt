use Rattle.addr_book.specs.Bound.{found_of}
use Rattle.machine.proofs.Choosing.{open_chosen}
use Rattle.machine.proofs.state.State.candidates.Goals as goal

pub between-requires : goal.between-requires
between-requires c = open_chosen c.args.self.now.book.services
    (found_of c.args.bound.now) _ c.in_Some-bound.leaf.now c.in_Some-bound.ensures.leaf
