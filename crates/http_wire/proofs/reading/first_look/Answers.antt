use Rattle.std.proofs.Common.{◌≡◌, length, ap, sym, arith, ◌∙◌}
use Rattle.std.proofs.lemmas.Bool.Decides.{nat_tests}
use Rattle.http_wire.proofs.Turning.{answered_first, looked_at_first, looked_at_hand}
use Rattle.http_wire.proofs.Turning.{nothing_unfinished}
use Rattle.http_wire.proofs.reading.first_look.Goals as goal

pub fill_once-requires : goal.fill_once-requires
fill_once-requires g c =
    let none : length c.kept.result.now ≡ 0 = grind (arith, nat_tests, c.is_empty.ensures) in
    nothing_unfinished c.args.rest.now (sym (ap length c.kept.ensures) ∙ none)

pub returns-then-not-is_empty-clause-bytes : goal.returns-then-not-is_empty-clause-bytes
returns-then-not-is_empty-clause-bytes g c =
    looked_at_hand _ c.args.rest.now c.answer.new.rest _ _ c.answer.result c.answer.ensures

pub returns-in-More-clause-bytes : goal.returns-in-More-clause-bytes
returns-in-More-clause-bytes g c =
    looked_at_first _ _ c.args.rest.now c.fill_once.new.rest c.answer-in-More.new.rest _ _ _ _
    c.answer-in-More.result c.in-More.ensures.bytes c.answer-in-More.ensures

pub returns-in-Answered-clause-bytes : goal.returns-in-Answered-clause-bytes
returns-in-Answered-clause-bytes g c =
    answered_first _ _ c.args.rest.now c.fill_once.new.rest _ _ _ _ c.in-Answered.answer
    c.in-Answered.ensures.bytes
