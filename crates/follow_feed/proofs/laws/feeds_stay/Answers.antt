use Rattle.follow_feed.proofs.Histories.{stays}
use Rattle.follow_feed.proofs.laws.feeds_stay.Goals as goal

pub returns : goal.returns
returns c = stays
