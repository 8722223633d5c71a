use Rattle.std.proofs.Common.{◌≡◌, ◌≤◌, ap, sym, ◌∙◌, arith, true}
use Rattle.std.specs.Prelude.{is_ok}
use Rattle.std.proofs.lemmas.List.Edits.{length-insert}
use Rattle.choose_core.specs.Marked.{marks_of}
use Rattle.choose_core.proofs.Finding.{sorted_gap, map_gap, map_gone_gap, len_gap, all_insert}
use Rattle.choose_core.proofs.Finding.{one_at_least, where_none, where_some, inserted}
use Rattle.choose_core.proofs.marked.set_nowhere.Goals as goal

pub prove-unreachable-requires : goal.prove-unreachable-requires
prove-unreachable-requires c =
    let len = len_gap c.args.items.now.items c.requires.sound.sorted c.args.addr c.args.at
    c.requires.gap in
    let room = c.requires.sound.room in
    let fewer = c.requires.room in
    let ok : is_ok c.insert-inserted.result ≡ true =
    c.insert-inserted.ensures.succeeds (grind (arith, len, room, fewer)) in
    let value = c.is_ok-is_inserted.ensures.value in
    let not_ok = c.if-prove.true in
    cc

pub returns-then-not-is_none-clause-marks : goal.returns-then-not-is_none-clause-marks
returns-then-not-is_none-clause-marks c =
    let ok : is_ok c.insert-inserted.result ≡ true = sym c.is_ok-is_inserted.ensures.value
    ∙ c.if-prove.false in
    ap marks_of (inserted _ _ _ _ ok c.insert-inserted.ensures.items)
    ∙ (map_gap c.args.items.now.items c.requires.sound.sorted c.args.addr c.args.at c.requires.gap
    c.args.mark
    ∙ where_some (marks_of c.args.items.now.items) c.args.addr c.args.mark
    (sym c.is_none.ensures ∙ c.if-not-is_none.true))

pub returns-then-not-is_none-clause-sound : goal.returns-then-not-is_none-clause-sound
returns-then-not-is_none-clause-sound c =
    let ok : is_ok c.insert-inserted.result ≡ true = sym c.is_ok-is_inserted.ensures.value
    ∙ c.if-prove.false in
    let len = len_gap c.args.items.now.items c.requires.sound.sorted c.args.addr c.args.at
    c.requires.gap in
    let fewer = c.requires.room in
    let longer = length-insert c.args.items.now.items c.args.at
    (record { addr = c.args.addr; mark = c.args.mark }) c.requires.gap.within in
    let capacity = c.insert-inserted.ensures.capacity in
    let room = c.requires.sound.room in
    rw (inserted _ _ _ _ ok c.insert-inserted.ensures.items) (record {
      sorted = sorted_gap c.args.items.now.items c.requires.sound.sorted c.args.addr c.args.at
          c.requires.gap c.args.mark;
      failed = all_insert (λ m. 1 ≤ m.mark.count) c.args.items.now.items c.args.at
          (record { addr = c.args.addr; mark = c.args.mark })
          (one_at_least c.args.mark (sym c.is_none.ensures ∙ c.if-not-is_none.true))
          c.requires.sound.failed;
      few = grind (arith, len, fewer, longer);
      room = grind (arith, capacity, room);
    })

pub returns-else-not-is_none-clause-marks : goal.returns-else-not-is_none-clause-marks
returns-else-not-is_none-clause-marks c =
    map_gone_gap c.args.items.now.items c.requires.sound.sorted c.args.addr c.args.at c.requires.gap
    ∙ where_none (marks_of c.args.items.now.items) c.args.addr c.args.mark
    (sym c.is_none.ensures ∙ c.if-not-is_none.false)

pub returns-then-not-is_none-clause-over : goal.returns-then-not-is_none-clause-over
returns-then-not-is_none-clause-over c until early over =
    let ok : is_ok c.insert-inserted.result ≡ true = sym c.is_ok-is_inserted.ensures.value
    ∙ c.if-prove.false in
    rw (inserted _ _ _ _ ok c.insert-inserted.ensures.items)
    (all_insert (λ m. m.mark.until ≤ until) c.args.items.now.items c.args.at
    (record { addr = c.args.addr; mark = c.args.mark }) early over)
