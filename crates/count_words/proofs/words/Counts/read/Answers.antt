use Rattle.std.proofs.Common.{arith}
use Rattle.count_words.proofs.Keeping.{loads}
use Rattle.count_words.proofs.words.Counts.read.Goals as goal

pub load-requires : goal.load-requires
load-requires c = (
  c.requires.reader,
  omega (arith, c.args.self.now.size, c.requires.word),
  loads _ _ _ _ _ c.requires.word,
)
