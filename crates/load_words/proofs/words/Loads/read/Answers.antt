use Rattle.std.proofs.Common.{arith, ap}
use Rattle.load_words.proofs.Keeping.{loads}
use Rattle.load_words.proofs.words.Loads.read.Goals as goal

pub load-requires : goal.load-requires
load-requires c = (
  ap (λ w. w.table) c.requires.seat,
  omega (arith, c.args.self.now.slots, c.requires.slot),
  loads _ _ (omega (arith, c.args.seat.now.part)) _ (omega (arith, c.requires.slot)) _ _,
)
