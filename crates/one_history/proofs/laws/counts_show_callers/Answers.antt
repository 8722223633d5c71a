use Rattle.one_history.proofs.Owning.{count_shows_callers}
use Rattle.one_history.proofs.laws.counts_show_callers.Goals as goal

pub returns : goal.returns
returns g c = λ is_change publishes caller_of. count_shows_callers is_change publishes caller_of
