use Rattle.std.proofs.Common.{◌≡◌, ◌-◌, List, ℕ, length}
use Rattle.std.specs.Io.KnownBytes.{Consumes, Keeps}
use Rattle.body_wire.specs.Stands.{most_left}
use Rattle.body_wire.proofs.Collected.{Reads}
use Rattle.body_wire.proofs.read.read_body.Given as goal

abbrev pub invariant-pieces : goal.invariant-pieces
invariant-pieces g l = record {
  reads :
      (came : List ℕ) × Consumes (g.P.Peer.line l.fn.peer).left (g.P.Peer.line l.peer).left came
      × Reads l.fn.framing l.decoder l.fn.rest came l.content.items l.rest;
  ends : (g.P.Peer.line l.peer).ends ≡ (g.P.Peer.line l.fn.peer).ends;
  closings : (g.P.Peer.line l.peer).closings ≡ (g.P.Peer.line l.fn.peer).closings;
  quiets : (g.P.Peer.line l.peer).quiets ≡ (g.P.Peer.line l.fn.peer).quiets;
  faults : (g.P.Peer.line l.peer).read_faults ≡ (g.P.Peer.line l.fn.peer).read_faults;
  given : Keeps (g.P.Peer.line l.fn.peer).given (g.P.Peer.line l.peer).given;
  writes : (g.P.Peer.line l.peer).write_faults ≡ (g.P.Peer.line l.fn.peer).write_faults;
}

abbrev pub decreases-pieces : goal.decreases-pieces
decreases-pieces g l = most_left l.decoder - length l.rest
