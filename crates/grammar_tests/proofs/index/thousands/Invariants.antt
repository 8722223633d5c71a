use Rattle.dtab_index.specs.Index.{AreBelow}
use Rattle.grammar_tests.proofs.index.thousands.Given as goal

abbrev pub invariant-loop-at : goal.invariant-loop-at
invariant-loop-at l = AreBelow l.at l.index
