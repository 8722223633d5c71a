use Rattle.workers.proofs.Sums.{turns_add_up}
use Rattle.workers.proofs.laws.each_turn_has_one_connection.Goals as goal

pub returns : goal.returns
returns g c = turns_add_up
