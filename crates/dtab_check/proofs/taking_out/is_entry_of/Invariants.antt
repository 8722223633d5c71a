use Rattle.dtab_check.proofs.Searching.{NamedFrom}
use Rattle.dtab_check.proofs.taking_out.is_entry_of.Given as goal

abbrev pub invariant-loop-item : goal.invariant-loop-item
invariant-loop-item l = NamedFrom l.list l.at l.item-index
