use Rattle.std.proofs.Common.{◌≡◌, length}
use Rattle.net_edge.specs.Sockets.{AllFresh}
use Rattle.net_edge.proofs.sockets.held.copies_of.Given as goal

abbrev pub invariant-loop-place : goal.invariant-loop-place
invariant-loop-place g l = record {
  count : length l.listeners.items ≡ l._place;
  fresh : AllFresh l.listeners.items;
}
