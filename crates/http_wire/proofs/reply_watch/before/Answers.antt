use Rattle.std.proofs.Common.{ℕ, sym, subst}
use Rattle.http_wire.specs.declared.reply_watch.StatusPlace.TheVariants.{Before, BeforeReturn}
use Rattle.http_wire.specs.Replies.{Leads}
use Rattle.http_wire.proofs.Replying.{before_feed, before_return, before_code}
use Rattle.http_wire.proofs.reply_watch.before.Goals as goal

pub returns-then-byte-eq10 : goal.returns-then-byte-eq10
returns-then-byte-eq10 c = subst (λ (b : ℕ). Leads Before b Before)
    (sym c.if-byte-eq10.true) before_feed

pub returns-then-byte-eq13 : goal.returns-then-byte-eq13
returns-then-byte-eq13 c = subst (λ (b : ℕ). Leads Before b BeforeReturn)
    (sym c.if-byte-eq13.true) before_return

pub returns-else-byte-eq13 : goal.returns-else-byte-eq13
returns-else-byte-eq13 c = before_code c.args.byte c.code.result c.if-byte-eq10.false
    c.if-byte-eq13.false c.code.ensures
