use Rattle.std.proofs.Common.{◌≡◌, ◌≤◌, ◌+◌, length, drop}
use Rattle.std.specs.Prelude.{filter}
use Rattle.choose_core.specs.Live.{is_alive}
use Rattle.choose_core.proofs.Telling.{IsFar}
use Rattle.choose_core.proofs.sieve.alive_in.Given as goal

abbrev pub invariant-loop-at : goal.invariant-loop-at
invariant-loop-at l = record {
  told : IsFar l.marks l.moment l.limits l.list l.at l.alive;
  fits : l.count ≤ l.at;
  count : l.count + length (filter (is_alive l.marks l.moment l.limits) (drop l.at l.list))
      ≡ length (filter (is_alive l.marks l.moment l.limits) l.list);
}
