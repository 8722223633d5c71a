use Rattle.dtab_table.specs.Dtab.{rules_of}
use Rattle.bind_cache.proofs.Finding.{Stands, left_of}
use Rattle.bind_cache.proofs.cache.Cache.find.Given as goal

abbrev pub invariant-loop-next : goal.invariant-loop-next
invariant-loop-next l = Stands l.path (rules_of l.local) l.self.bindings.items l.next

abbrev pub decreases-loop-next : goal.decreases-loop-next
decreases-loop-next l = left_of l.next
