use Rattle.std.proofs.Common.{◌≡◌, List, length, arith, ap, sym, subst, ◌∙◌, All}
use Rattle.std.specs.Vec.Iter.{into_iter_items}
use Rattle.std.proofs.lemmas.List.{length_push}
use Rattle.std.proofs.lemmas.List.Elements.{All-push, All-rest}
use Rattle.count_words.specs.Seats.{HasCountedNone, IsWriterOf, words_of}
use Rattle.worker_record.specs.Recording.{RecordValue}
use Rattle.linker_commands.specs.Recorded.{IsNewRecord}
use Rattle.linker_commands.proofs.Seats.{all_seated, one_seated}
use Rattle.linker_commands.proofs.recording.make_records.Goals as goal

pub loop-writer-preserved : goal.loop-writer-preserved
loop-writer-preserved g c =
    let inv = c.loop-writer.invariant in
    let cut = c.in-Some.ensures.steps.0 in
    let before = into_iter_items c.loop-writer.writer-iterator in
    let rest = into_iter_items c.next.new.self in
    let moments = g.C.Clock.of_fork c.args.recording.now.clock.now in
    let path = c.args.recording.now.log.now in
    let made : RecordValue = c.in_ok-made.made in
    let records : List RecordValue = c.loop-writer.records.items in
    let words = words_of c.args.recording.now.counts.now in
    let new : IsNewRecord moments path words made = c.in_ok-made.ensures.new in
    let pushed = c.in_ok-push.ensures.items in
    let longer = length_push records made in
    let grown = ap (λ (rs : List RecordValue). length rs) pushed in
    let shorter = ap length cut in
    let count = inv.count in
    record {
      count = omega (arith, longer, grown, shorter, count);
      writers = All-rest (IsWriterOf c.args.recording.now.counts.now) c.in-Some.writer rest before
          cut
          inv.writers;
      none = All-rest HasCountedNone c.in-Some.writer rest before cut inv.none;
      new = subst (All (IsNewRecord moments path words)) (sym pushed)
          (All-push (IsNewRecord moments path words) records made inv.new new);
      firsts = one_seated c.args.writers.items records c.push.new.self.items made c.in-Some.writer
          rest
          before pushed c.in_ok-made.ensures.first cut inv.firsts;
      closed = c.in_ok-made.ensures.closed ∙ inv.closed;
    }

pub returns-clause-firsts : goal.returns-clause-firsts
returns-clause-firsts g c =
    let none : length (into_iter_items c.loop-writer.writer-iterator) ≡ 0 =
    sym c.loop-writer.writer-iterator.rest.ok.0 ∙ c.in-None.ensures.steps.0 in
    all_seated c.args.writers.items c.loop-writer.records.items
    (into_iter_items c.loop-writer.writer-iterator) none c.loop-writer.invariant.firsts
