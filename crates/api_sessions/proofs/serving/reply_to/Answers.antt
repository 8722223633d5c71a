use Rattle.std.proofs.Common.{[], false, refl, inl, inr}
use Rattle.std.proofs.KnownBytes.{Appends-nil}
use Rattle.api_sessions.proofs.serving.reply_to.Goals as goal

pub returns-in-Ok-clause-answers : goal.returns-in-Ok-clause-answers
returns-in-Ok-clause-answers g c =
    let d = c.deliver.ensures.bytes in (
      d.0,
      d.1,
      d.2,
      d.3,
      inl
          (record { reply = c.in-Ok.reply; answers = c.in-Ok.ensures.answered; delivered = d.4 }),
    )

pub returns-in-Err-clause-answers : goal.returns-in-Err-clause-answers
returns-in-Err-clause-answers g c = (
  [],
  false,
  Appends-nil (g.P.Peer.line c.args.peer.now).given,
  refl,
  inr
      (record { leaves = c.in-Err.ensures.want; nothing = refl; goes_on = refl; is = refl }),
)
