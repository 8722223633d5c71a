use Rattle.std.proofs.Common.{List, ℕ, ◌<◌, length, subst, sym, ◌∙◌}
use Rattle.http_wire.proofs.Turning.{looked, unfinished_quiet}
use Rattle.http_wire.proofs.reading.take_turn.Goals as goal

pub returns-in-Answered-clause-bytes : goal.returns-in-Answered-clause-bytes
returns-in-Answered-clause-bytes g c =
    looked _ c.args.rest.now c.answer.new.rest c.in-Answered.answer _ _ c.in-Answered.ensures

pub read_once-requires-clause-unfinished : goal.read_once-requires-clause-unfinished
read_once-requires-clause-unfinished g c =
    unfinished_quiet c.args.rest.now
    (subst (λ (bytes : List ℕ). length bytes < 65536) c.kept.ensures c.if-kept-lt-MOST_HEAD.true)
    (c.requires.quiet (sym c.is_due.ensures ∙ c.if-not-is_due.true))
