use Rattle.std.proofs.Common.{◌≡◌, ◌-◌, List, ℕ, ◌++◌, length}
use Rattle.std.specs.Io.KnownBytes.{Consumes, Keeps}
use Rattle.http_wire.specs.Heads.{most}
use Rattle.http_wire.specs.Reading.{IsPrompt, Trusts}
use Rattle.http_wire.proofs.reading.read_request_head.Given as goal

abbrev pub invariant-loop-answer : goal.invariant-loop-answer
invariant-loop-answer g l = record {
  read : (taken : List ℕ) × Consumes (g.P.Peer.line l.fn.peer).left
      (g.P.Peer.line l.peer).left taken × IsPrompt l.fn.rest taken × (l.rest ≡ l.fn.rest ++ taken);
  trusts : Trusts l.watch l.rest;
  ends : (g.P.Peer.line l.peer).ends ≡ (g.P.Peer.line l.fn.peer).ends;
  faults : (g.P.Peer.line l.peer).read_faults ≡ (g.P.Peer.line l.fn.peer).read_faults;
  given : Keeps (g.P.Peer.line l.fn.peer).given (g.P.Peer.line l.peer).given;
  write_faults : (g.P.Peer.line l.peer).write_faults ≡ (g.P.Peer.line l.fn.peer).write_faults;
  closings : (g.P.Peer.line l.peer).closings ≡ (g.P.Peer.line l.fn.peer).closings;
  quiets : (g.P.Peer.line l.peer).quiets ≡ (g.P.Peer.line l.fn.peer).quiets;
}

abbrev pub decreases-loop-answer : goal.decreases-loop-answer
decreases-loop-answer g l = most - length l.rest
