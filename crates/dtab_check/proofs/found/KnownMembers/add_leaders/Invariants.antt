use Rattle.std.proofs.Common.{◌≡◌, List, Bool, true, length, map}
use Rattle.dtab_check.specs.Rounds.{IsFound, Grows, holds, LeadersKnown}
use Rattle.dtab_check.proofs.found.KnownMembers.add_leaders.Given as goal

abbrev pub invariant-loop-at : goal.invariant-loop-at
invariant-loop-at l = record {
  size : length l.self.known.items ≡ length l.rows;
  found : (own : List Bool) → length l.rows ≡ length own → holds l.fn.self.known.items l.to ≡ true
      → IsFound own (map (λ row. row.items) l.rows) l.fn.self.known.items l.fn.self.order.items
      → IsFound own (map (λ row. row.items) l.rows) l.self.known.items l.self.order.items;
  grows : Grows l.fn.self.known.items l.self.known.items l.fn.self.order.items l.self.order.items;
  leaders : LeadersKnown (map (λ row. row.items) l.rows) l.self.known.items l.to l.at;
}
