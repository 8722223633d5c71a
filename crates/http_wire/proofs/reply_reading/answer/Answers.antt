use Rattle.std.proofs.Common.{List, ℕ, refl, subst}
use Rattle.http_wire.specs.Heads.{window}
use Rattle.http_wire.specs.Replies.{BeginsWithReply, IsBadReply, IsOpenReply}
use Rattle.http_wire.specs.ReplyReading.{ShowsReply}
use Rattle.http_wire.proofs.Receiving.{begins_reply_within, begins_reply_whatever}
use Rattle.http_wire.proofs.Receiving.{bad_reply_whatever, large_reply_whatever, too_large_reply}
use Rattle.http_wire.proofs.reply_reading.answer.Goals as goal

pub skip-requires : goal.skip-requires
skip-requires c =
    let found = subst (ShowsReply c.kept.result.now) c.in-Ok-Whole.field-0-is
    c.in-Ok-Whole.ensures in
    begins_reply_within c.args.rest.now c.in-Ok-Whole.head c.in-Ok-Whole.len
    (subst (λ (bytes : List ℕ). BeginsWithReply bytes c.in-Ok-Whole.head c.in-Ok-Whole.len)
    c.kept.ensures found)

pub returns-in-Ok-Whole : goal.returns-in-Ok-Whole
returns-in-Ok-Whole c =
    let found = subst (ShowsReply c.kept.result.now) c.in-Ok-Whole.field-0-is
    c.in-Ok-Whole.ensures in (
      c.in-Ok-Whole.len,
      begins_reply_whatever c.args.rest.now c.in-Ok-Whole.head c.in-Ok-Whole.len
          (subst (λ (bytes : List ℕ). BeginsWithReply bytes c.in-Ok-Whole.head c.in-Ok-Whole.len)
          c.kept.ensures found),
      c.skip.ensures,
    )

pub returns-in-Ok-Bad : goal.returns-in-Ok-Bad
returns-in-Ok-Bad c =
    let found = subst (ShowsReply c.kept.result.now) c.in-Ok-Bad.field-0-is c.in-Ok-Bad.ensures in
    (bad_reply_whatever c.args.rest.now (subst IsBadReply c.kept.ensures found), refl)

pub returns-in-Ok-Partial : goal.returns-in-Ok-Partial
returns-in-Ok-Partial c =
    let found = subst (ShowsReply c.kept.result.now) c.in-Ok-Partial.field-0-is
    c.in-Ok-Partial.ensures in (
      large_reply_whatever c.args.rest.now
          (too_large_reply c.args.rest.now c.requires
          (subst (λ (bytes : List ℕ). IsOpenReply (window bytes)) c.kept.ensures found)),
      refl,
    )
