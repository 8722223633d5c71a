use Rattle.std.proofs.Common.{sym, ◌∙◌, ap, length}
use Rattle.choose_core.proofs.Passing.{whole}
use Rattle.choose_core.proofs.live.passing_count.Goals as goal

pub returns-then-takes_all : goal.returns-then-takes_all
returns-then-takes_all c =
    sym (ap length (whole c.args.sieve.now c.args.list.now
    (sym c.takes_all.ensures ∙ c.if-takes_all.true)))

pub passes-requires : goal.passes-requires
passes-requires c = c.requires c.loop-index.index _ c.loop-index-test.true
