use Rattle.std.proofs.Common.{ap, ◌∙◌}
use Rattle.choose_core.specs.Mark.{is_dead_mark}
use Rattle.choose_core.specs.Marks.{mark_at}
use Rattle.choose_core.proofs.Finding.{mark_place, mark_gap}
use Rattle.choose_core.proofs.marks.Marks.is_dead_near.Goals as goal

pub returns-in-Ok : goal.returns-in-Ok
returns-in-Ok c =
    c.is_dead.ensures
    ∙ ap (λ m. is_dead_mark m c.args.moment c.args.limits)
    (mark_place c.self.inside.items.items c.self.invariant.sound.sorted c.args.addr c.in-Ok.at
    (rw (← c.as_slice.ensures.value) c.in-Ok.ensures.found) c.index.result.now c.index.ensures
    ∙ ap (λ m. mark_at m c.args.addr) c.self.view_is)

pub returns-in-Err : goal.returns-in-Err
returns-in-Err c =
    c.is_dead-in-Err.ensures
    ∙ ap (λ m. is_dead_mark m c.args.moment c.args.limits)
    (mark_gap c.self.inside.items.items c.self.invariant.sound.sorted c.args.addr c.in-Err.at
    (rw (← c.as_slice.ensures.value) c.in-Err.ensures.absent)
    ∙ ap (λ m. mark_at m c.args.addr) c.self.view_is)
