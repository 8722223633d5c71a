use Rattle.std.proofs.Common.{◌≡◌, ◌<◌, List, Bool, length, map, ap, ◌∙◌, arith}
use Rattle.std.proofs.lemmas.List.{length-map}
use Rattle.dtab_check.specs.Rounds.{leads}
use Rattle.dtab_check.proofs.Rounds.{lead_is, next-size, leader-grows, leader-known, leader-found}
use Rattle.dtab_check.proofs.found.KnownMembers.add_leaders.Goals as goal

pub loop-at-preserved : goal.loop-at-preserved
loop-at-preserved c =
    let rows : List (List Bool) = map (λ row. row.items) c.args.rows.now in
    let was = c.loop-at.invariant in
    let known = c.loop-at.self.known.items in
    let order = c.loop-at.self.order.items in
    let lead : c.is_set.result ≡ leads rows c.loop-at.at c.args.to =
    lead_is c.args.rows.now c.loop-at.at c.args.to c.index-rows-at.result c.as_slice.result.now
    c.is_set.result c.loop-at-test.true c.index-rows-at.is c.as_slice.ensures.value
    c.is_set.ensures in
    let inside : c.loop-at.at < length known = omega (arith, was.size, c.loop-at-test.true) in
    let made = c.in_ok-look_at.ensures.known in
    let listed = c.in_ok-look_at.ensures.order in
    let new_known = c.look_at.new.self.known.items in
    let new_order = c.look_at.new.self.order.items in
    let first_known = c.args.self.now.known.items in
    let first_order = c.args.self.now.order.items in
    record {
      size = ap length made ∙ (next-size known c.loop-at.at c.is_set.result ∙ was.size);
      found = λ own same there start.
          leader-found rows first_known known new_known first_order order new_order c.loop-at.at
          c.args.to c.is_set.result inside lead made listed own
          (length-map c.args.rows.now (λ row. row.items) ∙ same)
          (was.grows.keeps c.args.to there) (was.found own same there start);
      grows = leader-grows rows first_known known new_known first_order order new_order
          c.loop-at.at c.args.to c.is_set.result inside lead made listed was.grows;
      leaders = leader-known rows first_known known new_known first_order order new_order
          c.loop-at.at c.args.to c.is_set.result inside lead made listed was.leaders;
    }
