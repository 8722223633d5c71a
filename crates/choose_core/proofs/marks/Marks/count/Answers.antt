use Rattle.std.proofs.Common.{ap, subst, ◌≤◌, arith}
use Rattle.std.specs.Prelude.{IfSome}
use Rattle.std.specs.FinMap as fin
use Rattle.choose_core.specs.Marks.{MarkMap}
use Rattle.choose_core.proofs.Finding.{len_marks, each_failed}
use Rattle.choose_core.proofs.marks.Marks.count.Goals as goal

pub returns-clause-count : goal.returns-clause-count
returns-clause-count c =
    let len = len_marks c.self.inside.items.items c.self.invariant.sound.sorted in
    let seen = ap fin.len c.self.view_is in
    grind (arith, len, seen)

pub returns-clause-counted : goal.returns-clause-counted
returns-clause-counted c addr =
    subst (λ (m : MarkMap). IfSome (fin.get m addr) (λ mark. 1 ≤ mark.count)) c.self.view_is
    (each_failed c.self.inside.items.items c.self.invariant.sound.sorted
    c.self.invariant.sound.failed addr)
