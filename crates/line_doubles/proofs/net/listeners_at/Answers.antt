use Rattle.std.proofs.Common.{◌≡◌, Some, arith}
use Rattle.line_base.specs.Accepts.{new_listening}
use Rattle.line_base.proofs.Placed.{placed_more}
use Rattle.line_doubles.proofs.net.listeners_at.Goals as goal

pub loop-place-preserved : goal.loop-place-preserved
loop-place-preserved g c = record {
  count = omega (arith, c.in-Ok-push.ensures.len);
  new = placed_more (λ at l. l.state ≡ new_listening
      (Some (record { ip = c.args.ip; port = c.args.port; place = at })) c.args.room) _ _ _ _
      c.in-Ok-push.ensures.items c.loop-place.invariant.count c.loop-place.invariant.new
      c.in-Ok.ensures.state;
}
