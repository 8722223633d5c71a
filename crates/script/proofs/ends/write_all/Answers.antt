use Rattle.std.proofs.Common.{arith, ◌∙◌}
use Rattle.script.proofs.Known.{grown, kept_front}
use Rattle.script.proofs.ends.write_all.Goals as goal

pub loop-at-preserved : goal.loop-at-preserved
loop-at-preserved g c = record {
  within = omega (arith, c.in-Ok.ensures.bound);
  given = grown _ _ _ c.args.bytes.now _ _ c.loop-at.invariant.given c.in-Ok.ensures.bytes;
  kept = c.in-Ok.ensures.cause.kept ∙ c.loop-at.invariant.kept;
}

pub returns-in-Err-clause-err : goal.returns-in-Err-clause-err
returns-in-Err-clause-err g c =
    kept_front _ _ _ _ _ c.loop-at.invariant.given c.in-Err.ensures.bytes
