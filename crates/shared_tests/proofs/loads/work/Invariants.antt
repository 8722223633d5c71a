use Rattle.std.proofs.Common.{◌≡◌, None}
use Rattle.load_words.specs.Seats.{IsOf, slot_of}
use Rattle.shared_tests.proofs.loads.work.Given as goal

abbrev pub invariant-loop-turn : goal.invariant-loop-turn
invariant-loop-turn g l = record {
  own : IsOf l.loads l.seat;
  free : slot_of l.seat ≡ None;
}
