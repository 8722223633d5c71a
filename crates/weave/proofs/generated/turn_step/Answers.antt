use Rattle.std.proofs.Common.{◌≡◌, ◌/◌, ◌%◌}
use Rattle.weave.specs.declared.step.Step.{Step}
use Rattle.weave.specs.Code.{step_of}
use Rattle.weave.specs.Generated.{turn_step, turn_by}
use Rattle.weave.proofs.Results.{if_ok}
use Rattle.weave.proofs.Weaving.{drawn_turn}
use Rattle.weave.proofs.generated.turn_step.Goals as goal

pub returns-clause-step : goal.returns-clause-step
returns-clause-step c =
    let word = c.next_word-word.result in
    let left = c.next_word-word.new.self in
    let rest = c.step.new.words in
    if_ok (λ (s : Step). (step_of s, rest)
    ≡ turn_step (word / 4 % 8) (word % 4) (word / 32 % 16) (word / 512 % 4096) left)
    (λ (s : Step). (step_of s, rest) ≡ turn_by c.args.words.now) c.step.result c.step.ensures.step
    (λ s is. drawn_turn word c.args.words.now left rest (step_of s) c.next_word-word.ensures is)
