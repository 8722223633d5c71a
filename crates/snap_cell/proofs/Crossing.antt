-- Which handles of a cell may go to other threads: writers, readers and notes, for any value that
-- may be sent and shared, and any operation that may be sent.
-- One search for a writer doesn't end, so it goes by parts. A crate above cites the ruleset at the
-- end, and shows what lies under a lock of its own by a lemma of its own.
use denote.RattleType.{RattleType}
use denote.Param.Send.{IsSend, IsSync, sendable}
use Rattle.std.proofs.Crossing.{crosses}
use Rattle.std.specs.contracts.alloc.Global as Heap
use Rattle.std.specs.contracts.impls.GlobalAllocator.TheImpl.{ghosts}
use Rattle.crossbeam_utils.specs.declared.rule.Protocol as protocol
use Rattle.logbook.proofs.tokens.Seen.TheSendSync as seen
use Rattle.logbook.proofs.word.Word.TheSendSync as word
use Rattle.left_right.proofs.part.Part.TheSendSync as part
use Rattle.left_right.proofs.part.Deed.TheSendSync as deed
use Rattle.left_right.specs.contracts.reader.Reading as LrReading
use Rattle.left_right.specs.contracts.reader.Reader as LrReader
use Rattle.left_right.specs.contracts.desk.Desk as LrDesk
use Rattle.atomic_table.proofs.send_lease.SendLease.TheSendSync as lease
use Rattle.atomic_table.proofs.shared.Seat.TheSendSync as seat
use Rattle.atomic_table.proofs.shared.Shared.TheSendSync as shared
use Rattle.snap_cell.proofs.history.Prefix.TheSendSync as prefix
use Rattle.snap_cell.proofs.kept.Entry.TheSendSync as entry
use Rattle.snap_cell.specs.contracts.kept.Kept as Kept
use Rattle.snap_cell.specs.contracts.reader.Reader as Reader
use Rattle.snap_cell.specs.contracts.writer.Writer as Writer
use Rattle.snap_cell.specs.contracts.writer.Note as Note
use Rattle.left_right.specs.declared.Absorb as absorb
use Rattle.snap_cell.specs.declared.kept.Kept as kept
use Rattle.snap_cell.specs.declared.kept.Entry as entries
use Rattle.snap_cell.specs.declared.operation.Published as published
use Rattle.snap_cell.specs.declared.operation.Operation as operation

pub kept_sync : (V O : RattleType) → IsSync V → IsSync (Kept.the_field V O).row
kept_sync V O y = search (sendable, crosses, prefix.the_field_sync, seen.the_sync) depth 20

pub kept_send : (V O : RattleType) → IsSend V → IsSend (Kept.the_field V O).row
kept_send V O y = search (sendable, crosses, prefix.the_field_send, seen.the_send) depth 20

pub ruleset board = (
  sendable,
  crosses,
  part.the_send,
  part.the_sync,
  deed.the_send,
  seat.the_send,
  lease.the_send,
  lease.the_sync,
  shared.the_send,
  shared.the_sync,
)

pub reading_send : (T V P : RattleType) (p : protocol.Ghosts P.Denot T.Denot V.Denot) → IsSend T
    → IsSync T → IsSend (LrReading.the_field T V P Heap.the_row p ghosts).row
reading_send T V P p s y = search board depth 40

pub desk_send : (T V P : RattleType) (p : protocol.Ghosts P.Denot T.Denot V.Denot) → IsSend T
    → IsSync T → IsSend (LrDesk.the_field T V P Heap.the_row p ghosts).row
desk_send T V P p s y = search board depth 40

pub reader_send : (T V P : RattleType) (p : protocol.Ghosts P.Denot T.Denot V.Denot) → IsSend T
    → IsSync T → IsSend (LrReader.the_field T V P Heap.the_row p ghosts).row
reader_send T V P p s y = search board depth 40

pub ruleset handles = (
  sendable,
  crosses,
  kept_sync,
  kept_send,
  reading_send,
  reader_send,
  desk_send,
  seen.the_send,
  prefix.the_field_send,
  entry.the_field_send,
  word.the_send,
)

pub cell_writer_send : (V O S T : RattleType)
    (k : absorb.Ghosts (kept.Kept V.Denot O.Denot) (entries.Entry O.Denot) T.Denot)
    (p : published.Ghosts V.Denot O.Denot S.Denot) (a : absorb.Ghosts V.Denot O.Denot S.Denot)
    (o : operation.Ghosts O.Denot)
    → IsSend V → IsSync V → IsSend O → IsSend (Writer.the_field V O S T k p a o).row
cell_writer_send V O S T k p a o s y t = search handles depth 40

pub cell_reader_send : (V O Q S : RattleType) (p : published.Ghosts V.Denot O.Denot S.Denot)
    (a : absorb.Ghosts V.Denot O.Denot S.Denot) (o : operation.Ghosts O.Denot)
    → IsSend V → IsSync V → IsSend (Reader.the_field V O Q S p a o).row
cell_reader_send V O Q S p a o s y = search handles depth 40

pub note_send : (O : RattleType) → IsSend (Note.the_field O).row
note_send O = search (sendable, crosses, prefix.the_field_send) depth 20

pub ruleset cell_handles = (cell_writer_send, cell_reader_send, note_send)
