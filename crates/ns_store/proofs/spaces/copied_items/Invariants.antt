use Rattle.std.proofs.Common.{◌≡◌, map, take}
use Rattle.ns_store.specs.Namespace.{entry_of}
use Rattle.ns_store.proofs.spaces.copied_items.Given as goal

abbrev pub invariant-loop-space : goal.invariant-loop-space
invariant-loop-space l = map entry_of l.copy.items ≡ map entry_of (take l.space-index l.items)
