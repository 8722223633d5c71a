use Rattle.count_words.specs.Seats.{Reads}
use Rattle.operator_tests.proofs.recorded.wrong_count.Given as goal

abbrev pub invariant-loop-place : goal.invariant-loop-place
invariant-loop-place l = Reads l.counts l.reader
