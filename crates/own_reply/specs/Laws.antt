-- What is read of an own reply.
use Rattle.std.specs.Prelude.{◌≡◌, Bool, [], ◌∷◌, length, drop, codes, Ok, if◌then◌else◌}
use Rattle.std.specs.Fmt.{decimal}
use Rattle.http_wire.specs.declared.head.ReplyHead.{ReplyHead}
use Rattle.http_wire.specs.declared.frames.Framing.{Framing}
use Rattle.http_wire.specs.Fields.{values_of}
use Rattle.http_wire.specs.Framing.{framing_of}
use Rattle.http_wire.specs.Replies.{BeginsWithReply}
use Rattle.own_reply.specs.declared.error.OwnError.{OwnError}
use Rattle.own_reply.specs.Reply.{body_of, head_of, reason_of, reply_of, status_of}

-- the bytes are the head of a reply with the status and the reason of the refusal, whose one
-- Content-Length is that of the body, and behind it the body, where it is written
pub record ReadsAsReply (err : OwnError) (closing with_body : Bool) (read : ReplyHead) : Type 0
  where
    pub whole : BeginsWithReply (reply_of err closing with_body) read (length (head_of err closing))
    pub behind : drop (length (head_of err closing)) (reply_of err closing with_body)
        ≡ (if with_body then body_of err else [])
    pub status : read.status ≡ status_of err
    pub reason : read.reason ≡ reason_of err
    pub said : values_of (codes "content-length") read.fields ≡ decimal (length (body_of err)) ∷ []
    pub framing : framing_of read.version read.fields ≡ Ok (Framing.Length (length (body_of err)))

abbrev pub OwnRepliesAreReplies : Type 0
OwnRepliesAreReplies =
    (err : OwnError) (closing with_body : Bool) → (read : ReplyHead)
    × ReadsAsReply err closing with_body read
