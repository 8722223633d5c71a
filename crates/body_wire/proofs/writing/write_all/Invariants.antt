use Rattle.std.proofs.Common.{◌≡◌, ◌-◌, ◌≤◌, length, take}
use Rattle.std.specs.Io.KnownBytes.{Appends, Keeps}
use Rattle.body_wire.proofs.writing.write_all.Given as goal

abbrev pub invariant-loop-at : goal.invariant-loop-at
invariant-loop-at g l = record {
  within : l.at ≤ length l.bytes;
  sent : Appends (g.P.Peer.line l.fn.peer).given (g.P.Peer.line l.peer).given (take l.at l.bytes);
  left : Keeps (g.P.Peer.line l.fn.peer).left (g.P.Peer.line l.peer).left;
  reads : (g.P.Peer.line l.peer).read_faults ≡ (g.P.Peer.line l.fn.peer).read_faults;
  ends : (g.P.Peer.line l.peer).ends ≡ (g.P.Peer.line l.fn.peer).ends;
  closings : (g.P.Peer.line l.peer).closings ≡ (g.P.Peer.line l.fn.peer).closings;
  quiets : (g.P.Peer.line l.peer).quiets ≡ (g.P.Peer.line l.fn.peer).quiets;
  faults : (g.P.Peer.line l.peer).write_faults ≡ (g.P.Peer.line l.fn.peer).write_faults;
}

abbrev pub decreases-loop-at : goal.decreases-loop-at
decreases-loop-at g l = length l.bytes - l.at
