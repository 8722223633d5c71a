use Rattle.linker_commands.proofs.Seats.{are_seated}
use Rattle.linker_commands.proofs.recording.make_instruments.Goals as goal

pub returns-clause-seats : goal.returns-clause-seats
returns-clause-seats g c = are_seated _ _ c.in_ok-recorders.ensures.firsts c.requires.numbers
