use Rattle.serving.proofs.Posting.{all_listened, listens}
use Rattle.serving.proofs.bound.bind.Goals as goal

pub returns-clause-listens : goal.returns-clause-listens
returns-clause-listens g c =
    let first = c.in_ok-server.ensures in
    let second = c.in_ok-namerd.ensures in
    let third = c.in_ok-admin.ensures in
    let fourth = c.in_ok-feed.ensures in
    listens g.N.L.Listener.state _ _ _ _ _ c.args.site.now
    (record {
      server = c.in_ok-server.server;
      namerd = c.in_ok-namerd.namerd;
      admin = c.in_ok-admin.admin;
      feed = c.in_ok-feed.feed;
    })
    (record {
      one = first.state;
      two = second.state;
      three = third.state;
      four = fourth.state;
      server = first.new;
      namerd = second.new;
      admin = third.new;
      feed = fourth.new;
    })
    (first.count, second.count, third.count, fourth.count) c.listen.ensures.few

pub returns-clause-state : goal.returns-clause-state
returns-clause-state g c =
    all_listened _ _ _ _ _ c.args.site.now c.in_ok-server.ensures.state c.in_ok-namerd.ensures.state
    c.in_ok-admin.ensures.state c.in_ok-feed.ensures.state
