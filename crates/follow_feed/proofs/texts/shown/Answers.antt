use Rattle.std.proofs.Common.{refl, sym}
use Rattle.follow_feed.proofs.texts.shown.Goals as goal

pub returns-in-None : goal.returns-in-None
returns-in-None c = sym (c.in-None.ensures.none refl)
