use Rattle.std.proofs.Common.{arith}
use Rattle.load_words.proofs.Keeping.{splits}
use Rattle.load_words.proofs.words.Loads.split.Goals as goal

pub split_seat-requires : goal.split_seat-requires
split_seat-requires c = (
  c.requires.table,
  omega (arith, c.args.self.now.slots),
  splits _ _ _ c.requires.part c.requires.free,
)
