use Rattle.follow_feed.specs.Feeds.{feed_value}
use Rattle.follow_feed.specs.Following.{held_in}
use Rattle.follow_feed.proofs.Progressing.{newer_held, newer_takes}
use Rattle.follow_feed.proofs.following.Following.take.Goals as goal

pub returns-in-Newer-clause-takes : goal.returns-in-Newer-clause-takes
returns-in-Newer-clause-takes g c =
    let old = held_in c.args.self.now.follower in
    let new = held_in c.take.new.self in
    let f = feed_value c.args.feed in
    let told = c.take.ensures.told in
    let held = c.take.ensures.held in
    let w = c.tell.ensures.tells f (newer_held old new f c.take.result told c.in-Newer.is held) in (
      w.0,
      w.1,
      newer_takes old new c.args.self.now.newer c.args.self.now.lost f c.take.result w.0
          c.tell.result told c.in-Newer.is held w.2,
    )
