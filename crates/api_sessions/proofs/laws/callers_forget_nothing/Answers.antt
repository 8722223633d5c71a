use Rattle.api_sessions.proofs.Staying.{few_requests, nothing_is_forgotten}
use Rattle.api_sessions.proofs.laws.callers_forget_nothing.Goals as goal

pub returns : goal.returns
returns g c =
    record { nothing = nothing_is_forgotten g.J.Naming; few = few_requests g.J.Naming }
