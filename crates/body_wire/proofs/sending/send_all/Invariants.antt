use Rattle.std.proofs.Common.{◌≡◌, ◌-◌, ◌≤◌, length, take}
use Rattle.line_base.specs.Dials.{HasSameLinks}
use Rattle.std.specs.Io.KnownBytes.{Keeps}
use Rattle.body_wire.specs.Passing.{Sends}
use Rattle.body_wire.proofs.sending.send_all.Given as goal

abbrev pub invariant-loop-at : goal.invariant-loop-at
invariant-loop-at g l = record {
  within : l.at ≤ length l.bytes;
  sent : Sends (g.D.Dialer.upstream l.fn.dialer).log (g.D.Dialer.upstream l.dialer).log
      (take l.at l.bytes);
  open_ : HasSameLinks (g.D.Dialer.upstream l.fn.dialer) (g.D.Dialer.upstream l.dialer);
  left : Keeps (g.D.Dialer.upstream l.fn.dialer).left (g.D.Dialer.upstream l.dialer).left;
  faults : (g.D.Dialer.upstream l.dialer).faults ≡ (g.D.Dialer.upstream l.fn.dialer).faults;
}

abbrev pub decreases-loop-at : goal.decreases-loop-at
decreases-loop-at g l = length l.bytes - l.at
