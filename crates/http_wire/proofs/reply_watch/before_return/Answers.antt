use Rattle.std.proofs.Common.{ℕ, sym, subst}
use Rattle.http_wire.specs.declared.reply_watch.StatusPlace.TheVariants.{Before, BeforeReturn}
use Rattle.http_wire.specs.Replies.{Leads}
use Rattle.http_wire.proofs.Replying.{return_feed, return_other}
use Rattle.http_wire.proofs.reply_watch.before_return.Goals as goal

pub returns-then-byte-eq10 : goal.returns-then-byte-eq10
returns-then-byte-eq10 c = subst (λ (b : ℕ). Leads BeforeReturn b Before)
    (sym c.if-byte-eq10.true) return_feed

pub returns-else-byte-eq10 : goal.returns-else-byte-eq10
returns-else-byte-eq10 c = return_other c.args.byte c.if-byte-eq10.false
