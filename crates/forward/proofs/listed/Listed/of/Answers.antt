use Rattle.forward.proofs.Found.{stand_for}
use Rattle.forward.proofs.listed.Listed.of.Goals as goal

pub returns : goal.returns
returns c = stand_for _ _ _ c.in_ok-sort.ensures.permutation c.in_ok-names.ensures
