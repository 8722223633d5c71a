use Rattle.choose_core.proofs.live.nth_passing.Goals as goal

pub passes-requires : goal.passes-requires
passes-requires c = c.requires c.loop-index.index _ c.loop-index-test.true
