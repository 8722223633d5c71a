use Rattle.std.proofs.Common.{List, ℕ, ◌++◌, take}
use Rattle.http_wire.specs.Replies.{Tracks}
use Rattle.http_wire.proofs.reply_watch.ReplyWatch.follow.Given as goal

abbrev pub invariant-loop-byte : goal.invariant-loop-byte
invariant-loop-byte l = (before : List ℕ) → Tracks before l.fn.self.place
    → Tracks (before ++ take l.byte-index l.bytes) l.self.place
