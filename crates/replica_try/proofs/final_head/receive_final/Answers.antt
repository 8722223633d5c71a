use Rattle.std.proofs.Common.{Err, ◌∙◌, ap, arith}
use Rattle.line_base.proofs.Links.{links_on}
use Rattle.replica_try.specs.Heads.{fault_of}
use Rattle.replica_try.proofs.Hearing.{heard, one_dropped}
use Rattle.replica_try.proofs.final_head.receive_final.Goals as goal

pub returns-in-Some-clause-hears : goal.returns-in-Some-clause-hears
returns-in-Some-clause-hears g c =
    let i = c.heads.invariant in
    heard _ _ _ _ _ _ _ _ _ i.dropped c.args.method.now
    (g.D.Dialer.upstream c.args.dialer.now).faults (g.D.Dialer.upstream c.heads.dialer).faults
    (g.D.Dialer.upstream c.read_reply_head.new.dialer).faults _ c.in-Some.decided i.few
    c.in-Ok.ensures.head i.faults c.in-Ok.ensures.fault
    c.in-Ok.ensures.faults c.in-Some.ensures.decided

pub returns-in-Err-clause-hears : goal.returns-in-Err-clause-hears
returns-in-Err-clause-hears g c =
    let i = c.heads.invariant in
    heard _ _ _ _ _ _ _ _ _ i.dropped c.args.method.now
    (g.D.Dialer.upstream c.args.dialer.now).faults (g.D.Dialer.upstream c.heads.dialer).faults
    (g.D.Dialer.upstream c.read_reply_head.new.dialer).faults _ (Err c.of_end.result) i.few
    c.in-Err.ensures.head i.faults c.in-Err.ensures.fault c.in-Err.ensures.faults
    (ap Err (c.of_end.ensures
    ∙ ap (λ b. fault_of b c.in-Err.end) c.is_nothing-nothing.ensures))

pub heads-preserved : goal.heads-preserved
heads-preserved g c =
    let i = c.heads.invariant in
    let n = c.in-None.ensures.more in
    record {
      few = omega (arith, n.1);
      dropped = one_dropped _ _ _ _ _ _ _ _ _ i.dropped _ c.in-Ok.ensures.head n.0;
      faults = c.in-Ok.ensures.fault ∙ i.faults;
      open_ = links_on i.open_ c.in-Ok.ensures.stays;
    }
