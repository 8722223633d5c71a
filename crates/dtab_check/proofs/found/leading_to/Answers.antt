use Rattle.std.proofs.Common.{◌≡◌, ◌<◌, ◌≤◌, true, List, Bool, length, map, ap, ◌∙◌, arith}
use Rattle.std.proofs.Common.{length-append}
use Rattle.std.proofs.lemmas.List.{length-map, get_or_read}
use Rattle.std.specs.Prelude.{slice_index_or}
use Rattle.dtab_check.specs.Rounds.{holds, LeadersKnown}
use Rattle.dtab_check.proofs.Rounds.{found-few, followed-more, all-found}
use Rattle.dtab_check.proofs.found.leading_to.Goals as goal

pub loop-at-init : goal.loop-at-init
loop-at-init c = record {
  found = c.in_ok-found.ensures.found (map (λ row. row.items) c.args.rows.now)
      (length-map c.args.rows.now (λ row. row.items) ∙ c.requires);
  owned = c.in_ok-found.ensures.owned;
  followed = λ k less. absurd (omega arith);
  within = omega arith;
}

pub loop-at-smaller : goal.loop-at-smaller
loop-at-smaller c =
    let few = found-few c.args.own.now (map (λ row. row.items) c.args.rows.now)
    c.loop-at.found.known.items c.loop-at.found.order.items c.loop-at.invariant.found in
    let left : c.loop-at.at < length c.loop-at.found.order.items =
    omega (arith, c.loop-at-test.true, c.len.ensures, c.loop-at.found.order.ok.0) in
    omega (arith, few, left)

pub loop-at-preserved : goal.loop-at-preserved
loop-at-preserved c =
    let rows : List (List Bool) = map (λ row. row.items) c.args.rows.now in
    let was = c.loop-at.invariant in
    let known = c.loop-at.found.known.items in
    let order = c.loop-at.found.order.items in
    let same : length rows ≡ length c.args.own.now = length-map c.args.rows.now (λ row. row.items)
    ∙ c.requires in
    let left : c.loop-at.at < length order =
    omega (arith, c.loop-at-test.true, c.len.ensures, c.loop-at.found.order.ok.0) in
    let to = c.index-to.result.now in
    let is : to ≡ slice_index_or order c.loop-at.at 0 =
    get_or_read order c.loop-at.at to left c.index-to.ensures 0 in
    let there : holds known to ≡ true = ap (holds known) is
    ∙ was.found.all_known c.loop-at.at left in
    let grows = c.in_ok-add_leaders.ensures.grows in
    let leaders : LeadersKnown rows c.add_leaders.new.self.known.items to (length c.args.own.now) =
    λ i less lead. c.in_ok-add_leaders.ensures.leaders i (omega (arith, c.requires, less)) lead in
    record {
      found = c.in_ok-add_leaders.ensures.found c.args.own.now c.requires there was.found;
      owned = λ i h. grows.keeps i (was.owned i h);
      followed = followed-more rows known c.add_leaders.new.self.known.items order
          c.add_leaders.new.self.order.items c.loop-at.at to
          (length c.args.own.now) grows was.followed left is leaders;
      within = let long = ap length grows.behind ∙ length-append order grows.found in
          omega (arith, long, left);
    }

pub returns : goal.returns
returns c =
    let rows : List (List Bool) = map (λ row. row.items) c.args.rows.now in
    let was = c.loop-at.invariant in
    let past : length c.loop-at.found.order.items ≤ c.loop-at.at =
    omega (arith, c.loop-at-test.false, c.len.ensures, c.loop-at.found.order.ok.0) in
    all-found c.args.own.now rows c.loop-at.found.known.items c.loop-at.found.order.items
    (length-map c.args.rows.now (λ row. row.items) ∙ c.requires) was.found was.owned
    (λ k less. was.followed k (omega (arith, past, less)))
