use Rattle.std.proofs.Common.{refl, arith, subst, Option}
use Rattle.machine.specs.Code.{settings_of}
use Rattle.weave.specs.Listed.{question_of}
use Rattle.weave.specs.World.{PassValue, Question, enter, entering, entered}
use Rattle.weave.specs.Held.{world_of, Becomes}
use Rattle.weave.proofs.Moving.{present_value}
use Rattle.weave.proofs.Steps.{lacking, enters_it}
use Rattle.weave.proofs.world.World.enter.Goals as goal

pub returns-then-number-len-clause-ok : goal.returns-then-number-len-clause-ok
returns-then-number-len-clause-ok g c =
    let old = c.args.self.now in
    let question = question_of c.args.asked.now in
    lacking old (enter c.args.number question) c.args.number
    (λ (r : Option PassValue). entering (settings_of old.settings)
    (world_of old) c.args.number r question) c.requires
    (omega (arith, c.if-number-len.true, c.len.ensures, old.passes.ok.0)) refl refl

pub returns-clause-ok : goal.returns-clause-ok
returns-clause-ok g c =
    let old = c.args.self.now in
    let x = present_value old.passes.items c.args.number
    (omega (arith, c.if-number-len.false, c.len.ensures, old.passes.ok.0)) in
    enters_it old c.ask.new.self c.args.number x.0 (question_of c.args.asked.now) x.1
    (c.in_ok-ask.ensures.ok x.0 x.1)
