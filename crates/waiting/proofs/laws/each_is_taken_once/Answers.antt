use Rattle.waiting.proofs.Once.{each_once, stale_finds_nothing}
use Rattle.waiting.proofs.laws.each_is_taken_once.Goals as goal

pub returns-clause-once : goal.returns-clause-once
returns-clause-once g c = each_once

pub returns-clause-stale : goal.returns-clause-stale
returns-clause-stale g c = stale_finds_nothing
