use Rattle.std.proofs.Common.{ap, arith, ◌∙◌}
use Rattle.atomic_table.specs.Table.{Me}
use Rattle.count_words.specs.declared.rule.Knowledge.{Knowledge}
use Rattle.count_words.proofs.Keeping.{splits}
use Rattle.count_words.proofs.words.Counts.another_reader.Goals as goal

pub split_seat-requires : goal.split_seat-requires
split_seat-requires c = (
  c.requires.reader,
  omega (arith, c.args.self.now.size, c.args.self.now.some),
  splits _ _ _,
)
