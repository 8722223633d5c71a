-- How an exchange ended.
use Rattle.std.specs.Prelude.{ℕ, List, codes, Option, Some, None}
use Rattle.http_wire.specs.declared.ended.Ended.{Ended}
use Rattle.http_wire.specs.declared.ended.Ended.TheVariants as ended
use Rattle.own_reply.specs.Reply.{status_of, text_of}
use Rattle.access_log.specs.declared.ending.Answer.{Answer}
use Rattle.access_log.specs.declared.ending.Answer.TheVariants as answer
use Rattle.access_log.specs.declared.ending.Break.{Break}
use Rattle.access_log.specs.declared.ending.Break.TheVariants as breaks

-- the status code of a reply, if one began
abbrev pub status_in : Answer → Option ℕ
status_in answer.Nothing = None
status_in (answer.Own error) = Some (status_of error)
status_in (answer.Passed status) = Some status

-- what the end of a session says of its last exchange: one that ended after it did not cut it off
abbrev pub break_of : Ended → Option Break
break_of ended.Cut = Some breaks.Cut
break_of ended.ReadFault = Some breaks.ReadFault
break_of ended.WriteFault = Some breaks.WriteFault
break_of ended.UpstreamCut = Some breaks.UpstreamCut
break_of ended.OutOfMemory = Some breaks.OutOfMemory
break_of ended.PeerEnded = None
break_of ended.Closed = None
break_of ended.Spent = None
break_of ended.Drained = None

abbrev pub break_text : Break → List ℕ
break_text breaks.Cut = codes "cut"
break_text breaks.ReadFault = codes "read-fault"
break_text breaks.WriteFault = codes "write-fault"
break_text breaks.UpstreamCut = codes "upstream-cut"
break_text breaks.OutOfMemory = codes "out-of-memory"

-- the word of an own reply that was written whole; a reply of a replica that was needs none
abbrev pub answer_text : Answer → List ℕ
answer_text answer.Nothing = codes "-"
answer_text (answer.Own error) = text_of error
answer_text (answer.Passed status) = codes "-"

-- what cut the exchange off comes first
abbrev pub ending_text : Answer → Option Break → List ℕ
ending_text a None = answer_text a
ending_text a (Some b) = break_text b
