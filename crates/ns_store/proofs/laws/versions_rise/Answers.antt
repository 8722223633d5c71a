use Rattle.ns_store.proofs.Rising.{rising}
use Rattle.ns_store.proofs.laws.versions_rise.Goals as goal

pub returns : goal.returns
returns c = rising
