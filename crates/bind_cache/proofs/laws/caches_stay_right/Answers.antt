use Rattle.bind_cache.proofs.Staying.{nothing_is_right, keeps_right, table_stays_right}
use Rattle.bind_cache.proofs.Staying.{service_stays_right, addresses_name_nothing}
use Rattle.bind_cache.proofs.laws.caches_stay_right.Goals as goal

pub returns : goal.returns
returns c = record {
  start = nothing_is_right;
  keep = keeps_right;
  table = table_stays_right;
  service = service_stays_right;
  addresses = addresses_name_nothing;
}
