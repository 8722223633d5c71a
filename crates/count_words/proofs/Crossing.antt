-- The words may be shared by threads, and a writer or a reader may go to another. A crate above
-- cites the ruleset.
use denote.Param.Send.{IsSend, IsSync}
use Rattle.count_words.proofs.words.Counts.TheSendSync as counts
use Rattle.count_words.proofs.words.CountWriter.TheSendSync as writer
use Rattle.count_words.proofs.words.CountReader.TheSendSync as reader
use Rattle.count_words.specs.contracts.words.Counts as Counts
use Rattle.count_words.specs.contracts.words.CountWriter as CountWriter
use Rattle.count_words.specs.contracts.words.CountReader as CountReader

pub counts_send : IsSend Counts.the_row
counts_send = counts.the_send

pub counts_sync : IsSync Counts.the_row
counts_sync = counts.the_sync

pub count_writer_send : IsSend CountWriter.the_row
count_writer_send = writer.the_send

pub count_reader_send : IsSend CountReader.the_row
count_reader_send = reader.the_send

pub ruleset words_and_ends = (counts_send, counts_sync, count_writer_send, count_reader_send)
