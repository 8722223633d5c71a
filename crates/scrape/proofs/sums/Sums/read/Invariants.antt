use Rattle.std.proofs.Common.{◌≡◌, ℕ, List, length}
use Rattle.count_words.specs.Seats.{Reads, reads_of}
use Rattle.scrape.specs.Sums.{AreSums, IsReading}
use Rattle.scrape.proofs.sums.Sums.read.Given as goal

abbrev pub invariant-loop-word : goal.invariant-loop-word
invariant-loop-word l = record {
  seat : Reads l.counts l.reader;
  long : length l.sums ≡ 64;
  read :
      (found : List (ℕ × ℕ))
      × IsReading l.word (reads_of l.fn.reader) (reads_of l.reader) found × AreSums l.sums found;
}
