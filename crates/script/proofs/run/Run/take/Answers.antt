use Rattle.machine.specs.Code.{settings_of, ask_of}
use Rattle.script.specs.Ran.{run_of}
use Rattle.script.proofs.Turning.{on_ok, within_pick}
use Rattle.script.proofs.run.Run.take.Goals as goal

pub returns-in-Pick-clause-within : goal.returns-in-Pick-clause-within
returns-in-Pick-clause-within g c =
    on_ok c.pick-picked.result
    (within_pick (settings_of c.args.settings.now) c.args.number (run_of c.args.self.now)
    (run_of c.pick-picked.new.self) (ask_of c.in-Pick.ask) c.requires.within)
    c.pick-picked.ensures.run c.pick-picked.ensures.ports
