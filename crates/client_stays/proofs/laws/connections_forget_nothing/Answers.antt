use Rattle.client_stays.proofs.Chaining.{nothing_is_forgotten, one_budget, points_never_fall}
use Rattle.client_stays.proofs.laws.connections_forget_nothing.Goals as goal

pub returns : goal.returns
returns c =
    record { nothing = nothing_is_forgotten; points = points_never_fall; budget = one_budget }
