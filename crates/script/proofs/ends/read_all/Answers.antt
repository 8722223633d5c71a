use Rattle.std.proofs.Common.{arith, ◌++◌, take}
use Rattle.script.proofs.Known.{taken_more, long_taken, few_taken}
use Rattle.script.proofs.ends.read_all.Goals as goal

pub returns-then-count-most-clause-long : goal.returns-then-count-most-clause-long
returns-then-count-most-clause-long g c _ = (
  c.loop-most.all.items ++ take c.in-Ok.count c.read.new.into,
  taken_more _ _ _ c.loop-most.all.items _ c.loop-most.invariant.taken c.in-Ok.ensures.bytes.0,
  long_taken c.loop-most.all.items c.read.new.into c.in-Ok.count c.args.most
      (c.in-Ok.ensures.bound.0) (omega arith),
)

pub returns-then-is_err-clause-few : goal.returns-then-is_err-clause-few
returns-then-is_err-clause-few g c _ = (
  c.loop-most.all.items ++ take c.in-Ok.count c.read.new.into,
  taken_more _ _ _ c.loop-most.all.items _ c.loop-most.invariant.taken c.in-Ok.ensures.bytes.0,
  few_taken c.loop-most.all.items c.read.new.into c.in-Ok.count c.args.most
      (c.in-Ok.ensures.bound.0) (omega arith),
)
