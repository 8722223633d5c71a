use Rattle.std.proofs.Common.{ap, map}
use Rattle.std.specs.FinMap.{from_sorted}
use Rattle.ns_store.specs.Namespace.{entry_of}
use Rattle.ns_store.proofs.Finding.{none_spaces}
use Rattle.ns_store.proofs.spaces.Spaces.new.Goals as goal

pub returns : goal.returns
returns c = none_spaces _ c.new.ensures.items
