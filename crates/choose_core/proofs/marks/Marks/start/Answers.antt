use Rattle.choose_core.proofs.Finding.{none_marks}
use Rattle.choose_core.proofs.marks.Marks.start.Goals as goal

pub returns : goal.returns
returns c = none_marks _ c.in_ok-with_capacity.ensures.items
