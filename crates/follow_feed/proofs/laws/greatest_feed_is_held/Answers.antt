use Rattle.follow_feed.proofs.Latest.{holds_greatest, holds_leaders}
use Rattle.follow_feed.proofs.laws.greatest_feed_is_held.Goals as goal

pub returns-clause-greatest : goal.returns-clause-greatest
returns-clause-greatest c = holds_greatest

pub returns-clause-leaders : goal.returns-clause-leaders
returns-clause-leaders c = holds_leaders
