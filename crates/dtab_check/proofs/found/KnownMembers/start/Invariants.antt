use Rattle.std.proofs.Common.{◌≡◌, ℕ, ◌<◌, List, Bool, true, length}
use Rattle.dtab_check.specs.Rounds.{IsFound, holds}
use Rattle.dtab_check.proofs.found.KnownMembers.start.Given as goal

abbrev pub invariant-loop-at : goal.invariant-loop-at
invariant-loop-at l = record {
  size : length l.found.known.items ≡ length l.own;
  found : (rows : List (List Bool)) → length rows ≡ length l.own
      → IsFound l.own rows l.found.known.items l.found.order.items;
  owned : (i : ℕ) → i < l.at → holds l.own i ≡ true → holds l.found.known.items i ≡ true;
}
