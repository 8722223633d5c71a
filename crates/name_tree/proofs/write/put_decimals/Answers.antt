use Rattle.std.proofs.Common.{refl}
use Rattle.name_tree.proofs.DecimalSteps.{decimal_more, grows_more}
use Rattle.name_tree.proofs.write.put_decimals.Goals as goal

pub loop-unit-preserved : goal.loop-unit-preserved
loop-unit-preserved c =
    let k = decimal_more c.loop-unit.unit-index c.loop-unit.rest _ _ _ c.loop-unit-test.true
    c.if-rest-eq0.false c.loop-unit.invariant.below c.in_ok-push.ensures.items
    c.loop-unit.invariant.same in
    record {
      units = refl;
      same = k.0;
      below = k.1;
      grown =
          grows_more _ _ _ _ c.loop-unit.invariant.grown c.in_ok-push.ensures.items;
    }
