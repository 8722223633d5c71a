use Rattle.std.proofs.Common.{[], ◌∷◌, ◌++◌, ◌%◌, arith, refl}
use lib.ListN.{get_or-replicate}
use Rattle.count_words.specs.Seats.{reads_of}
use Rattle.scrape.proofs.Summing.{long_more, read_more, read_none, sums_more}
use Rattle.scrape.proofs.sums.Sums.read.Goals as goal

pub loop-word-init : goal.loop-word-init
loop-word-init c = record {
  seat = c.requires.reader;
  long = refl;
  read = (
    [],
    read_none (reads_of c.args.reader.now),
    λ place few. get_or-replicate 64 place 0 0 few,
  );
}

pub read-found-requires-clause-word : goal.read-found-requires-clause-word
read-found-requires-clause-word c = omega (arith, c.loop-word-test.true, c.requires.size)

pub loop-word-preserved : goal.loop-word-preserved
loop-word-preserved c =
    let was = c.loop-word.invariant.read in
    let word = c.loop-word.word in
    record {
      seat = c.read-found.ensures.reader;
      long =
          rw c.add.ensures
          (long_more c.loop-word.sums (c.loop-word.word % 64) c.read-found.result
          c.loop-word.invariant.long);
      read = (
        was.0 ++ (word, c.read-found.result) ∷ [],
        read_more (reads_of c.args.reader.now) (reads_of c.loop-word.reader)
            (reads_of c.read-found.new.reader) was.0 word c.read-found.result was.1
            c.read-found.ensures.reads,
        rw c.add.ensures (sums_more c.loop-word.sums was.0 word c.read-found.result
            c.loop-word.invariant.long (omega arith) was.2),
      );
    }
