use Rattle.proxy_session.proofs.Bounding.{stays_bounded}
use Rattle.proxy_session.proofs.Seeing.{stay_later}
use Rattle.proxy_session.proofs.laws.stays_follow_what_was_seen.Goals as goal

pub returns : goal.returns
returns c = record { later = stay_later; bounded = stays_bounded }
