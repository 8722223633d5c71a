use Rattle.std.proofs.Common.{◌≡◌, ℕ, arith, sym, subst}
use Rattle.http_wire.specs.declared.section.Place.TheVariants.{Start, Value}
use Rattle.http_wire.specs.declared.reply_watch.StatusPlace.TheVariants.{Code, Fields}
use Rattle.http_wire.specs.Replies.{Leads}
use Rattle.http_wire.proofs.Replying.{code_blank, code_feed}
use Rattle.http_wire.proofs.reply_watch.behind_code.Goals as goal

pub returns-then-byte-eq32 : goal.returns-then-byte-eq32
returns-then-byte-eq32 c =
    let whole : c.args.count ≡ 12 = omega arith in
    subst (λ (b : ℕ). Leads (Code c.args.count) b (Fields Value)) (sym c.if-byte-eq32.true)
    (code_blank c.args.count whole)

pub returns-then-byte-eq10 : goal.returns-then-byte-eq10
returns-then-byte-eq10 c =
    let whole : c.args.count ≡ 12 = omega arith in
    subst (λ (b : ℕ). Leads (Code c.args.count) b (Fields Start)) (sym c.if-byte-eq10.true)
    (code_feed c.args.count whole)
