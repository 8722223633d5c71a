use Rattle.std.proofs.Common.{◌≤◌, ◌-◌, ℕ, ◌<◌, length, map, slice_index_or}
use Rattle.dtab_check.specs.Rounds.{IsFound, AreKnown, LeadersKnown}
use Rattle.dtab_check.proofs.found.leading_to.Given as goal

abbrev pub invariant-loop-at : goal.invariant-loop-at
invariant-loop-at l = record {
  found : IsFound l.own (map (λ row. row.items) l.rows) l.found.known.items l.found.order.items;
  owned : AreKnown l.own l.found.known.items;
  followed : (k : ℕ) → k < l.at → LeadersKnown (map (λ row. row.items) l.rows) l.found.known.items
      (slice_index_or l.found.order.items k 0) (length l.own);
  within : l.at ≤ length l.found.order.items;
}

abbrev pub decreases-loop-at : goal.decreases-loop-at
decreases-loop-at l = length l.own - l.at
