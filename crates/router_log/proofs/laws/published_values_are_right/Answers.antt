use Rattle.router_log.proofs.Places.{place_is, same_place}
use Rattle.router_log.proofs.Right.{values_right}
use Rattle.router_log.proofs.laws.published_values_are_right.Goals as goal

pub returns : goal.returns
returns c = record { right = values_right; place = place_is; state = same_place }
