use Rattle.body_wire.proofs.Sent.{Sends-nil, sent_more, front_sent, all_sent}
use Rattle.line_base.proofs.Links.{links_on, links_same, still_open}
use Rattle.std.proofs.Common.{refl, ◌∙◌, arith}
use Rattle.std.proofs.KnownBytes.{Keeps-refl, Keeps-trans}
use Rattle.body_wire.proofs.sending.send_all.Goals as goal

pub loop-at-init : goal.loop-at-init
loop-at-init g c = record {
  within = omega arith;
  sent = Sends-nil (g.D.Dialer.upstream c.args.dialer.now).log;
  open_ = links_same (g.D.Dialer.upstream c.args.dialer.now);
  left = Keeps-refl (g.D.Dialer.upstream c.args.dialer.now).left;
  faults = refl;
}

pub send-requires : goal.send-requires
send-requires g c = still_open c.loop-at.invariant.open_ c.requires

pub loop-at-preserved : goal.loop-at-preserved
loop-at-preserved g c = record {
  within = let b = c.in-Ok.ensures.bound in omega arith;
  sent = sent_more _ _ _ c.args.bytes.now c.loop-at.at c.in-Ok.count c.loop-at.invariant.sent
      c.loop-at-test.true c.in-Ok.ensures.log;
  open_ = links_on c.loop-at.invariant.open_ c.in-Ok.ensures.stays.0;
  left = Keeps-trans _ _ _ c.loop-at.invariant.left c.in-Ok.ensures.stays.1;
  faults = c.in-Ok.ensures.cause.kept ∙ c.loop-at.invariant.faults;
}

pub returns-in-Err-clause-bytes : goal.returns-in-Err-clause-bytes
returns-in-Err-clause-bytes g c =
    front_sent _ _ _ c.args.bytes.now c.loop-at.at c.loop-at.invariant.sent c.in-Err.ensures.log

pub returns-in-Err-clause-stays : goal.returns-in-Err-clause-stays
returns-in-Err-clause-stays g c = (
  links_on c.loop-at.invariant.open_ c.in-Err.ensures.stays.0,
  Keeps-trans _ _ _
      c.loop-at.invariant.left c.in-Err.ensures.stays.1,
)

pub returns-clause-bytes : goal.returns-clause-bytes
returns-clause-bytes g c =
    all_sent _ _ c.args.bytes.now c.loop-at.at c.loop-at.invariant.sent c.loop-at-test.false
