use Rattle.std.proofs.Common.{refl, ap}
use Rattle.machine.specs.Code.{settings_of, ask_of}
use Rattle.load_words.specs.Seats.{reads_of}
use Rattle.router.specs.Chosen.{decision_loads, decision_value}
use Rattle.router.specs.Detached.{settings_out, state_out}
use Rattle.router.proofs.LoadsRead.{has_read}
use Rattle.router.proofs.detached.Detached.pick.Goals as goal

pub returns-in_err-answer-clause-err : goal.returns-in_err-answer-clause-err
returns-in_err-answer-clause-err g c =
    has_read (settings_out c.args.self.now) (settings_of c.deref-2.result.now)
    (state_out c.args.self.now) (state_out c.args.self.now) (ask_of c.args.ask.now)
    (reads_of c.args.seat.now) (reads_of c.decide-decision.new.seat)
    c.from_residual-in_err-answer.result (decision_loads c.decide-decision.result)
    (decision_value c.decide-decision.result) (ap settings_of c.deref-2.ensures) refl
    c.decide-decision.ensures.decided

pub returns-in_err-fresh-clause-err : goal.returns-in_err-fresh-clause-err
returns-in_err-fresh-clause-err g c =
    has_read (settings_out c.args.self.now) (settings_of c.deref-2.result.now)
    (state_out c.args.self.now) (state_out c.args.self.now) (ask_of c.args.ask.now)
    (reads_of c.args.seat.now) (reads_of c.decide-decision.new.seat)
    c.from_residual-in_err-fresh.result (decision_loads c.decide-decision.result)
    (decision_value c.decide-decision.result) (ap settings_of c.deref-2.ensures) refl
    c.decide-decision.ensures.decided
