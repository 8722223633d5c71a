use Rattle.std.proofs.Common.{◌<◌, ◌∙◌, Some, length, get_or, refl, arith}
use Rattle.std.proofs.lemmas.List.{get_or_default}
use Rattle.snap_cell.proofs.Options.{there}
use Rattle.snap_cell.proofs.Readers.{new_kept, there_more}
use Rattle.snap_cell.proofs.begin.open_doors.Goals as goal

pub loop-reader-preserved : goal.loop-reader-preserved
loop-reader-preserved g c =
    let stands = c.loop-reader.invariant in
    let told = c.new_door.ensures in
    let readers = c.loop-reader.reader-items in
    let at = c.loop-reader.reader-index in
    let within : at < length readers = omega arith in
    let one = get_or readers at c.reader-item.result in (
      new_kept readers at _ within c.args.desk.now.desk.shown.value.origin one
          (get_or_default readers at c.reader-item.result one within)
          (λ h. record {
            cell = h.cell;
            number = h.number;
            refusals = h.refusals;
            seen = h.seen;
            items = h.items;
          }) stands.0,
      told.shown ∙ stands.1,
      there_more readers at _ within (there (Some c.new_door.result) c.new_door.result refl)
          stands.2,
      (told.pending.0 ∙ stands.3.0, told.pending.1 ∙ stands.3.1),
      told.told ∙ stands.4,
    )
