use Rattle.choose_core.specs.Sieve.{passes}
use Rattle.choose_core.proofs.Drawing.{IsDrawingOther}
use Rattle.choose_core.proofs.draw.draw_other.Given as goal

abbrev pub invariant-loop-index : goal.invariant-loop-index
invariant-loop-index l = IsDrawingOther (passes l.sieve) l.list l.index l.at l.left l.out l.over
