use Rattle.std.proofs.Common.{◌≡◌, ◌+◌, ◌++◌, length, map, All}
use Rattle.std.specs.Vec.Iter.{into_iter_items}
use Rattle.count_words.specs.Seats.{HasCountedNone, IsWriterOf, first_of, words_of}
use Rattle.worker_record.specs.Recording.{RecordValue}
use Rattle.linker_commands.specs.Recorded.{IsNewRecord}
use Rattle.linker_commands.proofs.recording.make_records.Given as goal

abbrev pub invariant-loop-writer : goal.invariant-loop-writer
invariant-loop-writer g l = record {
  count : length l.records.items + length (into_iter_items l.writer-iterator)
      ≡ length l.fn.writers.items;
  writers : All (IsWriterOf l.recording.counts.now) (into_iter_items l.writer-iterator);
  none : All HasCountedNone (into_iter_items l.writer-iterator);
  new : All (IsNewRecord (g.C.Clock.of_fork l.recording.clock.now) l.recording.log.now
      (words_of l.recording.counts.now)) l.records.items;
  firsts : map (λ (r : RecordValue). r.first) l.records.items
      ++ map first_of (into_iter_items l.writer-iterator)
      ≡ map first_of l.fn.writers.items;
  closed : g.O.Journals.closed l.journals ≡ g.O.Journals.closed l.fn.journals;
}
