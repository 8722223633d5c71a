use Rattle.std.proofs.Common.{◌≡◌, ◌-◌, length}
use Rattle.line_base.specs.Dials.{HasSameLinks}
use Rattle.http_wire.specs.Heads.{most}
use Rattle.http_wire.specs.Replies.{Tracks}
use Rattle.http_wire.proofs.Receiving.{SoFar}
use Rattle.http_wire.proofs.reply_reading.read_reply_head.Given as goal

abbrev pub invariant-loop-watch : goal.invariant-loop-watch
invariant-loop-watch g l = record {
  read : SoFar (g.D.Dialer.upstream l.fn.dialer).left (g.D.Dialer.upstream l.dialer).left
      (g.D.Dialer.upstream l.fn.dialer).log (g.D.Dialer.upstream l.dialer).log l.fn.rest l.rest;
  tracks : Tracks l.rest l.watch.place;
  stays : HasSameLinks (g.D.Dialer.upstream l.fn.dialer) (g.D.Dialer.upstream l.dialer);
  faults : (g.D.Dialer.upstream l.dialer).faults ≡ (g.D.Dialer.upstream l.fn.dialer).faults;
}

abbrev pub decreases-loop-watch : goal.decreases-loop-watch
decreases-loop-watch g l = most - length l.rest
