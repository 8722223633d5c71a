use Rattle.std.proofs.Common.{arith, ap}
use Rattle.load_words.proofs.Keeping.{adds}
use Rattle.load_words.proofs.words.Loads.take.Goals as goal

pub fetch_add-requires : goal.fetch_add-requires
fetch_add-requires c = (
  ap (λ w. w.table) c.requires.seat,
  omega (arith, c.args.self.now.slots, c.requires.slot),
  adds _ _ (omega (arith, c.args.seat.now.part)) _ (omega (arith, c.requires.slot)) _ _
      c.requires.free,
)
