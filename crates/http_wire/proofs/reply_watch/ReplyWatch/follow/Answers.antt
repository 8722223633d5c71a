use Rattle.std.proofs.Common.{sym, ◌∙◌, get_or}
use Rattle.http_wire.proofs.Replying.{tracks_all, tracks_byte, tracks_more}
use Rattle.http_wire.proofs.reply_watch.ReplyWatch.follow.Goals as goal

pub returns-then-is_at_end : goal.returns-then-is_at_end
returns-then-is_at_end c before tracks =
    tracks_all before c.args.bytes.now c.loop-byte.byte-index c.loop-byte.self.place
    (sym c.is_at_end.ensures ∙ c.if-is_at_end.true) (c.loop-byte.invariant before tracks)

pub loop-byte-preserved : goal.loop-byte-preserved
loop-byte-preserved c before tracks =
    tracks_byte before c.args.bytes.now c.loop-byte.byte-index c.after-self.result
    c.loop-byte-test.true
    (tracks_more _ c.loop-byte.self.place c.after-self.result
    (get_or c.args.bytes.now c.loop-byte.byte-index 0)
    (sym c.is_at_end.ensures ∙ c.if-is_at_end.false)
    c.after-self.ensures (c.loop-byte.invariant before tracks))
