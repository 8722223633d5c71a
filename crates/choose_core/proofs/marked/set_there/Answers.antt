use Rattle.std.proofs.Common.{◌≤◌, ap, sym, ◌∙◌, arith}
use Rattle.choose_core.specs.Marked.{marks_of}
use Rattle.choose_core.proofs.Finding.{sorted_place, map_place, sorted_gone, map_gone, all_set}
use Rattle.choose_core.proofs.Finding.{all_remove, one_at_least, where_none, where_some}
use Rattle.choose_core.proofs.Finding.{length-gone, length-put}
use Rattle.choose_core.proofs.marked.set_there.Goals as goal

pub returns-then-is_none-clause-marks : goal.returns-then-is_none-clause-marks
returns-then-is_none-clause-marks c =
    ap marks_of c.remove.ensures.items
    ∙ (map_gone c.args.items.now.items c.requires.sound.sorted c.args.addr c.args.at
    c.requires.place c.remove.result
    ∙ where_none (marks_of c.args.items.now.items) c.args.addr c.args.mark
    (sym c.is_none.ensures ∙ c.if-is_none.true))

pub returns-then-is_none-clause-sound : goal.returns-then-is_none-clause-sound
returns-then-is_none-clause-sound c =
    rw (c.remove.ensures.items, c.remove.ensures.capacity) (record {
      sorted = sorted_gone c.args.items.now.items c.requires.sound.sorted c.args.addr c.args.at
          c.requires.place c.remove.result;
      failed = all_remove (λ m. 1 ≤ m.mark.count) c.args.items.now.items c.args.at
          c.requires.sound.failed;
      few = omega (arith, length-gone c.args.items.now.items c.args.at, c.requires.sound.few);
      room = c.requires.sound.room;
    })

pub returns-else-is_none-clause-marks : goal.returns-else-is_none-clause-marks
returns-else-is_none-clause-marks c =
    map_place c.args.items.now.items c.requires.sound.sorted c.args.addr c.args.at c.requires.place
    c.args.mark
    ∙ where_some (marks_of c.args.items.now.items) c.args.addr c.args.mark
    (sym c.is_none.ensures ∙ c.if-is_none.false)

pub returns-else-is_none-clause-sound : goal.returns-else-is_none-clause-sound
returns-else-is_none-clause-sound c = record {
  sorted = sorted_place c.args.items.now.items c.requires.sound.sorted c.args.addr c.args.at
      c.requires.place c.args.mark;
  failed = all_set (λ m. 1 ≤ m.mark.count) c.args.items.now.items c.args.at
      (record { addr = c.args.addr; mark = c.args.mark })
      (one_at_least c.args.mark (sym c.is_none.ensures ∙ c.if-is_none.false))
      c.requires.sound.failed;
  few = length-put c.args.items.now.items c.args.at
      (record { addr = c.args.addr; mark = c.args.mark }) 8192 c.requires.sound.few;
  room = c.requires.sound.room;
}

pub returns-then-is_none-clause-over : goal.returns-then-is_none-clause-over
returns-then-is_none-clause-over c until early over =
    rw c.remove.ensures.items
    (all_remove (λ m. m.mark.until ≤ until) c.args.items.now.items c.args.at over)

pub returns-else-is_none-clause-over : goal.returns-else-is_none-clause-over
returns-else-is_none-clause-over c until early over =
    all_set (λ m. m.mark.until ≤ until) c.args.items.now.items c.args.at
    (record { addr = c.args.addr; mark = c.args.mark }) early over
