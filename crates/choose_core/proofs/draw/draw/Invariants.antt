use Rattle.choose_core.specs.Sieve.{passes}
use Rattle.choose_core.proofs.Drawing.{IsDrawing}
use Rattle.choose_core.proofs.draw.draw.Given as goal

abbrev pub invariant-loop-index : goal.invariant-loop-index
invariant-loop-index l = IsDrawing (passes l.sieve) l.list l.index l.at l.left l.over
