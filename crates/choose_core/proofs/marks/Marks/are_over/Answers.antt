use Rattle.std.proofs.Common.{◌≡◌, ◌≤◌, false, subst, arith}
use Rattle.choose_core.specs.Mark.{is_dead_mark}
use Rattle.choose_core.specs.Marks.{MarkMap, mark_at}
use Rattle.choose_core.proofs.Finding.{none_dead_from}
use Rattle.choose_core.proofs.marks.Marks.are_over.Goals as goal

pub returns : goal.returns
returns c over addr limits =
    let later : c.self.inside.until ≤ c.args.moment = grind (arith, over) in
    subst (λ (m : MarkMap). is_dead_mark (mark_at m addr) c.args.moment limits ≡ false)
    c.self.view_is
    (none_dead_from c.self.inside.items.items c.self.invariant.sound.sorted c.self.inside.until
    c.args.moment c.self.invariant.over later addr limits)
