use Rattle.router_log.proofs.Publishing.{of_caller, change_fits, kept_fits}
use Rattle.router_log.proofs.laws.published_operations_fit.Goals as goal

pub returns : goal.returns
returns c = record { own = of_caller; change = change_fits; kept = kept_fits }
