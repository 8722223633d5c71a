use Rattle.body_wire.proofs.Sent.{given_more, front_given, all_given}
use Rattle.std.proofs.Common.{refl, ◌∙◌, arith}
use Rattle.std.proofs.KnownBytes.{Appends-nil, Keeps-refl, Keeps-trans}
use Rattle.body_wire.proofs.writing.write_all.Goals as goal

pub loop-at-init : goal.loop-at-init
loop-at-init g c = record {
  within = omega arith;
  sent = Appends-nil (g.P.Peer.line c.args.peer.now).given;
  left = Keeps-refl (g.P.Peer.line c.args.peer.now).left;
  reads = refl;
  ends = refl;
  closings = refl;
  quiets = refl;
  faults = refl;
}

pub loop-at-preserved : goal.loop-at-preserved
loop-at-preserved g c = record {
  within = let b = c.in-Ok.ensures.bound in omega arith;
  sent = given_more _ _ _ c.args.bytes.now c.loop-at.at c.in-Ok.count c.loop-at.invariant.sent
      c.in-Ok.ensures.bytes;
  left = Keeps-trans _ _ _ c.loop-at.invariant.left c.in-Ok.ensures.others.left;
  reads = c.in-Ok.ensures.others.read_faults ∙ c.loop-at.invariant.reads;
  ends = c.in-Ok.ensures.others.ends ∙ c.loop-at.invariant.ends;
  closings = c.in-Ok.ensures.others.closings ∙ c.loop-at.invariant.closings;
  quiets = c.in-Ok.ensures.others.quiets ∙ c.loop-at.invariant.quiets;
  faults = c.in-Ok.ensures.cause.kept ∙ c.loop-at.invariant.faults;
}

pub returns-in-Err-clause-bytes : goal.returns-in-Err-clause-bytes
returns-in-Err-clause-bytes g c =
    front_given _ _ _ c.args.bytes.now c.loop-at.at c.loop-at.invariant.sent c.in-Err.ensures.bytes

pub returns-in-Err-clause-others : goal.returns-in-Err-clause-others
returns-in-Err-clause-others g c = record {
  left = Keeps-trans _ _ _ c.loop-at.invariant.left c.in-Err.ensures.others.left;
  read_faults = c.in-Err.ensures.others.read_faults ∙ c.loop-at.invariant.reads;
  ends = c.in-Err.ensures.others.ends ∙ c.loop-at.invariant.ends;
  closings = c.in-Err.ensures.others.closings ∙ c.loop-at.invariant.closings;
  quiets = c.in-Err.ensures.others.quiets ∙ c.loop-at.invariant.quiets;
}

pub returns-clause-bytes : goal.returns-clause-bytes
returns-clause-bytes g c =
    all_given _ _ c.args.bytes.now c.loop-at.at c.loop-at.invariant.sent c.loop-at-test.false
