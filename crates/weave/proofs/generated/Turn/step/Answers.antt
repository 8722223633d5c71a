use Rattle.machine.specs.Code.{ask_of}
use Rattle.weave.proofs.Weaving.{turn_asks, turn_answers}
use Rattle.weave.proofs.generated.Turn.step.Goals as goal

pub returns-then-self-lt6-clause-step : goal.returns-then-self-lt6-clause-step
returns-then-self-lt6-clause-step c =
    turn_asks c.args.self.kind c.args.self.pass c.args.self.service c.args.self.number
    c.args.words.now c.draw_ask.new.words (ask_of c.in_ok-ask.ask) c.if-self-eq0.false
    c.if-self-eq1.false c.if-self-eq2.false
    c.if-self-eq3.false c.if-self-lt6.true c.in_ok-ask.ensures

pub returns-clause-step : goal.returns-clause-step
returns-clause-step c =
    turn_answers c.args.self.kind c.args.self.pass c.args.self.service c.args.self.number
    c.args.words.now c.if-self-eq0.false c.if-self-eq1.false c.if-self-eq2.false
    c.if-self-eq3.false c.if-self-lt6.false
