use Rattle.dtab_table.proofs.Comparing.{Seen}
use Rattle.dtab_table.proofs.places.compared.Given as goal

abbrev pub invariant-loop-at : goal.invariant-loop-at
invariant-loop-at l = Seen l.entries l.path l.found.items l.at
