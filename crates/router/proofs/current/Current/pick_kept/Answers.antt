use Rattle.machine.specs.Code.{settings_of, state_of, ask_of}
use Rattle.load_words.specs.Seats.{reads_of}
use Rattle.router.specs.Chosen.{decision_loads, decision_value}
use Rattle.router.specs.Values.{settings_in, value_in}
use Rattle.router.proofs.LoadsRead.{has_read}
use Rattle.router.proofs.current.Current.pick_kept.Goals as goal

pub returns-clause-err : goal.returns-clause-err
returns-clause-err c =
    has_read (settings_in c.args.self.now) (settings_of c.settings.result.now)
    (value_in c.args.self.now).state (state_of c.state.result.now) (ask_of c.args.ask.now)
    (reads_of c.args.seat.now) (reads_of c.decide-decision.new.seat)
    c.answer_of.result (decision_loads c.decide-decision.result)
    (decision_value c.decide-decision.result) c.settings.ensures c.state.ensures
    c.decide-decision.ensures.decided
