use Rattle.std.proofs.Common.{◌≡◌, ℕ, ◌+◌, ◌*◌, [], length, slice_index_or, All}
use Rattle.count_words.specs.Seats.{AreNumbered, HasCountedNone, IsWriterOf}
use Rattle.count_words.proofs.words.Counts.make_seats.Given as goal

abbrev pub invariant-loop-worker : goal.invariant-loop-worker
invariant-loop-worker l = record {
  table : l.first.table_id ≡ l.self.table.shared.table_id;
  bare : l.first.me.1 ≡ [];
  from : l.first.me.0.first ≡ 64 * l.worker;
  none : (place : ℕ) → slice_index_or l.first.me.0.counts place 0 ≡ 0;
  unread : l.first.me.0.reads ≡ [];
  left : length l.first.me.0.counts + 64 * l.worker ≡ 64 * l.workers;
  count : length l.writers.items ≡ l.worker;
  own : All (IsWriterOf l.self) l.writers.items;
  numbers : AreNumbered l.writers.items;
  zero : All HasCountedNone l.writers.items;
}
