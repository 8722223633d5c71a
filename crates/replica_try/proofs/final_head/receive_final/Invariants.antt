use Rattle.std.proofs.Common.{◌≡◌, ◌≤◌}
use Rattle.line_base.specs.Dials.{HasSameLinks}
use Rattle.replica_try.proofs.Hearing.{Dropped}
use Rattle.replica_try.proofs.final_head.receive_final.Given as goal

abbrev pub invariant-heads : goal.invariant-heads
invariant-heads g l = record {
  few : l.dropped ≤ 8;
  dropped : Dropped (g.D.Dialer.upstream l.fn.dialer).log (g.D.Dialer.upstream l.dialer).log
      l.fn.rest l.rest l.dropped;
  faults : (g.D.Dialer.upstream l.dialer).faults ≡ (g.D.Dialer.upstream l.fn.dialer).faults;
  open_ : HasSameLinks (g.D.Dialer.upstream l.fn.dialer) (g.D.Dialer.upstream l.dialer);
}
