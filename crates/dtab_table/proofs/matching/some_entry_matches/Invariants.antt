use Rattle.dtab_table.proofs.Matches.{MatchFrom}
use Rattle.dtab_table.proofs.matching.some_entry_matches.Given as goal

abbrev pub invariant-loop-entry : goal.invariant-loop-entry
invariant-loop-entry l = MatchFrom l.entries l.path l.entry-index
