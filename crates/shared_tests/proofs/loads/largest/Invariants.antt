use Rattle.std.proofs.Common.{◌≡◌}
use Rattle.load_words.specs.Seats.{IsOf, slot_of}
use Rattle.shared_tests.proofs.loads.largest.Given as goal

abbrev pub invariant-loop-slot : goal.invariant-loop-slot
invariant-loop-slot l = record {
  own : IsOf l.loads l.seat;
  same : slot_of l.seat ≡ slot_of l.fn.seat;
}
