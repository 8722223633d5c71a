use Rattle.router_log.proofs.Taking.{change_taken, kept_taken}
use Rattle.router_log.proofs.laws.taking_is_applying.Goals as goal

pub returns : goal.returns
returns c = record { change = change_taken; kept = kept_taken }
