use Rattle.std.proofs.Common.{◌+◌, ◌-◌, cond, refl, ap, ◌∙◌}
use Rattle.std.specs.Prelude.{◌&&◌, ◌==◌}
use Rattle.std.specs.FinMap.{get}
use Rattle.std.proofs.Common.{None, take, drop, length}
use Rattle.addr_book.specs.AddrList.{has_addr}
use Rattle.addr_book.specs.Uses.{count_at}
use Rattle.addr_book.proofs.Fronts.{gone_distinct, more_distinct, counts_of_all, kept_of_all}
use Rattle.addr_book.proofs.seats.Seats.moved.Goals as goal

pub count_in-requires-clause-distinct : goal.count_in-requires-clause-distinct
count_in-requires-clause-distinct c =
    more_distinct c.args.before.now c.args.after.now c.common_front-front.result
    c.common_front-front.ensures.same c.requires.before c.requires.after _ _ refl refl

pub count_out-requires : goal.count_out-requires
count_out-requires c = record {
  distinct = gone_distinct c.args.before.now c.args.after.now c.common_front-front.result
      c.common_front-front.ensures.same c.requires.before c.requires.after _ _ refl refl;
}

pub returns-clause-uses : goal.returns-clause-uses
returns-clause-uses c =
    let front = c.common_front-front in
    counts_of_all c.args.before.now c.args.after.now front.result front.ensures.same
    c.requires.before c.requires.after _ _ refl refl c.args.self.now.uses c.in_ok-uses.uses
    (λ a. c.in_ok-uses.ensures a
    ∙ ap
    (λ n. n - cond (has_addr
    (take (length c.args.before.now - front.result) (drop front.result c.args.before.now)) a) 1 0)
    (c.in_ok-more.ensures a
    ∙ ap (λ m. count_at m a
    + cond (has_addr (take (length c.args.after.now - front.result)
    (drop front.result c.args.after.now)) a) 1 0) c.in_ok-copied.ensures))

pub returns-clause-slots : goal.returns-clause-slots
returns-clause-slots c =
    let front = c.common_front-front in
    kept_of_all c.args.before.now c.args.after.now front.result front.ensures.same
    c.requires.before c.requires.after _ _ refl refl c.args.self.now.uses c.in_ok-uses.uses
    (λ a. c.in_ok-uses.ensures a
    ∙ ap
    (λ n. n - cond (has_addr
    (take (length c.args.before.now - front.result) (drop front.result c.args.before.now)) a) 1 0)
    (c.in_ok-more.ensures a
    ∙ ap (λ m. count_at m a
    + cond (has_addr (take (length c.args.after.now - front.result)
    (drop front.result c.args.after.now)) a) 1 0) c.in_ok-copied.ensures))
    c.args.self.now.slots c.in_ok-slots.slots c.requires.used
    (λ a. c.in_ok-slots.ensures a
    ∙ ap
    (λ m. cond (has_addr (take (length c.args.before.now - front.result)
    (drop front.result c.args.before.now)) a && (count_at c.in_ok-uses.uses a == 0)) None
    (get m a)) c.in_ok-copied-2.ensures)
