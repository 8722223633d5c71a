use Rattle.std.proofs.Common.{◌≡◌, [], length, All, None, ◌+◌}
use Rattle.load_words.specs.Seats.{IsOf, IsUnused}
use Rattle.load_words.proofs.words.Loads.make_seats.Given as goal

abbrev pub invariant-loop : goal.invariant-loop
invariant-loop l = record {
  table : l.first.table_id ≡ l.self.table.shared.table_id;
  bare : l.first.me.1 ≡ [];
  left : l.first.me.0.parts + l.counter ≡ l.seats + 1;
  bound : l.first.me.0.seats ≡ l.self.table.shared.key;
  free : l.first.me.0.slot ≡ None;
  count : length l.made.items + 1 ≡ l.counter;
  own : All (IsOf l.self) l.made.items;
  unused : All IsUnused l.made.items;
}
