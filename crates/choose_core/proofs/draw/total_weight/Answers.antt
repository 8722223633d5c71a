use Rattle.choose_core.proofs.draw.total_weight.Goals as goal

pub passes-requires : goal.passes-requires
passes-requires c = c.requires.tells c.loop-index.index _ c.loop-index-test.true
