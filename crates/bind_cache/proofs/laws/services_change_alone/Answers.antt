use Rattle.bind_cache.proofs.Staying.{changes_one_service}
use Rattle.bind_cache.proofs.laws.services_change_alone.Goals as goal

pub returns : goal.returns
returns c = changes_one_service
