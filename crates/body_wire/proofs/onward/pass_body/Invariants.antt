use Rattle.std.proofs.Common.{◌≡◌, ◌-◌, List, ℕ, length}
use Rattle.line_base.specs.Dials.{HasSameLinks}
use Rattle.std.specs.List.{concat}
use Rattle.std.specs.Io.KnownBytes.{Consumes, Keeps}
use Rattle.body_wire.specs.declared.form.Form.{Form}
use Rattle.body_wire.specs.Passing.{Sends, most_passed}
use Rattle.body_wire.specs.Stands.{most_left}
use Rattle.body_wire.proofs.Passes.{OnWay}
use Rattle.body_wire.proofs.onward.pass_body.Given as goal

abbrev pub invariant-pieces : goal.invariant-pieces
invariant-pieces g l = record {
  way :
      (pieces : List (List ℕ)) × (sent : List ℕ)
      × Consumes (g.P.Peer.line l.fn.peer).left (g.P.Peer.line l.peer).left (concat pieces)
      × Sends (g.D.Dialer.upstream l.fn.dialer).log (g.D.Dialer.upstream l.dialer).log sent
      × OnWay l.fn.framing Form.Chunks most_passed l.decoder l.fn.out.items l.fn.rest pieces sent
      l.out.items l.rest;
  ends : (g.P.Peer.line l.peer).ends ≡ (g.P.Peer.line l.fn.peer).ends;
  closings : (g.P.Peer.line l.peer).closings ≡ (g.P.Peer.line l.fn.peer).closings;
  quiets : (g.P.Peer.line l.peer).quiets ≡ (g.P.Peer.line l.fn.peer).quiets;
  reads : (g.P.Peer.line l.peer).read_faults ≡ (g.P.Peer.line l.fn.peer).read_faults;
  given : Keeps (g.P.Peer.line l.fn.peer).given (g.P.Peer.line l.peer).given;
  writes : (g.P.Peer.line l.peer).write_faults ≡ (g.P.Peer.line l.fn.peer).write_faults;
  faults : (g.D.Dialer.upstream l.dialer).faults ≡ (g.D.Dialer.upstream l.fn.dialer).faults;
  open_ : HasSameLinks (g.D.Dialer.upstream l.fn.dialer) (g.D.Dialer.upstream l.dialer);
  left : Keeps (g.D.Dialer.upstream l.fn.dialer).left (g.D.Dialer.upstream l.dialer).left;
}

abbrev pub decreases-pieces : goal.decreases-pieces
decreases-pieces g l = most_left l.decoder - length l.rest
