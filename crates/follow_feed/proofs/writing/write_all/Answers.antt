use Rattle.body_wire.proofs.Sent.{given_more, front_given, all_given}
use Rattle.std.proofs.Common.{refl, ◌∙◌, arith}
use Rattle.std.proofs.KnownBytes.{Appends-nil}
use Rattle.follow_feed.proofs.writing.write_all.Goals as goal

pub loop-at-init : goal.loop-at-init
loop-at-init g c = record {
  within = omega arith;
  sent = Appends-nil (g.K.Sink.output c.args.sink.now).held;
  faults = refl;
}

pub loop-at-preserved : goal.loop-at-preserved
loop-at-preserved g c = record {
  within = let b = c.in-Ok.ensures.bound in omega arith;
  sent = given_more _ _ _ c.args.bytes.now c.loop-at.at c.in-Ok.count c.loop-at.invariant.sent
      c.in-Ok.ensures.bytes;
  faults = c.in-Ok.ensures.cause.kept ∙ c.loop-at.invariant.faults;
}

pub returns-in-Err-clause-bytes : goal.returns-in-Err-clause-bytes
returns-in-Err-clause-bytes g c =
    front_given _ _ _ c.args.bytes.now c.loop-at.at c.loop-at.invariant.sent c.in-Err.ensures.bytes

pub returns-clause-bytes : goal.returns-clause-bytes
returns-clause-bytes g c =
    all_given _ _ c.args.bytes.now c.loop-at.at c.loop-at.invariant.sent c.loop-at-test.false
