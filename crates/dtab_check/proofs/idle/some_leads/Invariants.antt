use Rattle.std.proofs.Common.{◌≡◌}
use Rattle.dtab_check.proofs.Noting.{front_leads}
use Rattle.dtab_check.proofs.idle.some_leads.Given as goal

abbrev pub invariant-loop-leaf : goal.invariant-loop-leaf
invariant-loop-leaf l = l.found ≡ front_leads l.leaves l.leaf-index
