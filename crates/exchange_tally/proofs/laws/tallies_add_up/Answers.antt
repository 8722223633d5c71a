use Rattle.exchange_tally.proofs.Placing.{places_tell_figures}
use Rattle.exchange_tally.proofs.Summing.{tallies_add_up}
use Rattle.exchange_tally.proofs.laws.tallies_add_up.Goals as goal

pub returns-clause-sums : goal.returns-clause-sums
returns-clause-sums c = tallies_add_up

pub returns-clause-places : goal.returns-clause-places
returns-clause-places c = places_tell_figures
