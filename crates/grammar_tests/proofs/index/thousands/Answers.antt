use Rattle.std.proofs.Common.{sym, subst, List, ◌+◌}
use Rattle.dtab_index.specs.Index.{AreBelow, Placed}
use Rattle.dtab_index.proofs.Matches.{below_more}
use Rattle.grammar_tests.proofs.index.thousands.Goals as goal

pub loop-at-preserved : goal.loop-at-preserved
loop-at-preserved c = subst (λ (ps : List Placed). AreBelow (c.loop-at.at + 1) ps)
    (sym c.in_ok-add.ensures.ok) (below_more c.loop-at.at c.loop-at.index _ c.loop-at.invariant)
