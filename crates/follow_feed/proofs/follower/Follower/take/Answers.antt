use Rattle.std.proofs.Common.{◌∙◌, sym}
use Rattle.follow_feed.specs.Feeds.{feed_value}
use Rattle.follow_feed.specs.Following.{held_in}
use Rattle.follow_feed.proofs.Latest.{follows_news, follows_old}
use Rattle.follow_feed.proofs.follower.Follower.take.Goals as goal

pub returns-then-awaits-clause-follows : goal.returns-then-awaits-clause-follows
returns-then-awaits-clause-follows c = λ came h.
    follows_news came (held_in c.args.self.now) (feed_value c.args.feed)
    (sym c.awaits.ensures ∙ c.if-awaits.true) h

pub returns-clause-follows : goal.returns-clause-follows
returns-clause-follows c = λ came h.
    follows_old came (held_in c.args.self.now) (feed_value c.args.feed)
    (sym c.awaits.ensures ∙ c.if-awaits.false) h
