use Rattle.std.proofs.Common.{refl, arith, Option}
use Rattle.machine.specs.Code.{settings_of}
use Rattle.weave.specs.World.{PassValue, answer, answering}
use Rattle.weave.specs.Held.{world_of}
use Rattle.weave.proofs.Moving.{present_value}
use Rattle.weave.proofs.Steps.{lacking, answers_it}
use Rattle.weave.proofs.world.World.answer.Goals as goal

pub returns-then-number-len : goal.returns-then-number-len
returns-then-number-len c =
    let old = c.args.self.now in
    lacking old (answer c.args.number) c.args.number
    (λ (r : Option PassValue). answering (settings_of old.settings) (world_of old) c.args.number r)
    c.requires
    (omega (arith, c.if-number-len.true, c.len.ensures, old.passes.ok.0)) refl refl

pub returns : goal.returns
returns c =
    let old = c.args.self.now in
    let x = present_value old.passes.items c.args.number
    (omega (arith, c.if-number-len.false, c.len.ensures, old.passes.ok.0)) in
    answers_it old c.take_answer.new.self c.args.number x.0 c.take_answer.result x.1
    (c.take_answer.ensures x.0 x.1)
