use Rattle.std.proofs.Common.{◌≡◌, false, length, replicate, ap, ◌∙◌, arith}
use Rattle.std.proofs.lemmas.List.{length-replicate}
use Rattle.dtab_check.specs.Rounds.{holds}
use Rattle.dtab_check.proofs.Rounds.{found-none, next-size, own-found, own-known}
use Rattle.dtab_check.proofs.found.KnownMembers.start.Goals as goal

pub loop-at-init : goal.loop-at-init
loop-at-init c =
    let none : c.in_ok-vec.field-0.items ≡ replicate (length c.args.own.now) false =
    c.in_ok-vec.ensures.items_if_clones_equal (λ y h. h) in
    record {
      size = ap length none ∙ length-replicate (length c.args.own.now) false;
      found = λ rows same. found-none c.args.own.now rows same c.in_ok-vec.field-0.items
          c.new.result.items none c.new.ensures.items;
      owned = λ i less h. absurd (omega arith);
    }

pub loop-at-preserved : goal.loop-at-preserved
loop-at-preserved c =
    let was = c.loop-at.invariant in
    let known = c.loop-at.found.known.items in
    let order = c.loop-at.found.order.items in
    let made = c.in_ok-look_at.ensures.known in
    let listed = c.in_ok-look_at.ensures.order in
    record {
      size = ap length made
          ∙ (next-size known c.loop-at.at (holds c.args.own.now c.loop-at.at) ∙ was.size);
      found = λ rows same.
          own-found c.args.own.now known c.look_at.new.self.known.items order
          c.look_at.new.self.order.items c.loop-at.at was.size c.loop-at-test.true made listed rows
          same (was.found rows same);
      owned = own-known c.args.own.now known c.look_at.new.self.known.items order
          c.look_at.new.self.order.items c.loop-at.at was.size c.loop-at-test.true made listed
          was.owned;
    }
