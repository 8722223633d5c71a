use Rattle.std.proofs.Common.{◌<◌, ◌≤◌, ◌+◌, ap, ◌∙◌, sym, refl, subst, length, drop, get_or, arith}
use Rattle.std.specs.FinMap.{len}
use Rattle.addr_book.specs.declared.addr.Weighted.{Weighted}
use Rattle.addr_book.specs.Book.{assigned}
use Rattle.addr_book.specs.SlotMap.{IsSlotMap}
use Rattle.addr_book.proofs.Seating.{len_insert}
use Rattle.addr_book.proofs.SlotSteps.{assigned_next, assigned_none}
use Rattle.addr_book.proofs.SlotMaps.{Goes, lowest_goes, lowest_assigned, assigned_end, step_some}
use Rattle.addr_book.proofs.SlotMaps.{step_none}
use Rattle.addr_book.proofs.slot_map.SlotMap.with_lowest.Goals as goal
use Rattle.addr_book.proofs.slot_map.SlotMap.with_lowest.Goals.{in-Some+in_ok-slots, in_default}

pub loop-at-init : goal.loop-at-init
loop-at-init c = record {
  goes = lowest_goes c.args.self c.self.inside.taken c.self.inside.count
      (subst (λ m. IsSlotMap m c.self.inside.taken c.self.inside.count) c.self.view_is
      c.self.invariant) c.args.news.now
      c.requires.few c.in_ok-free.free.items c.in_ok-free.ensures c.requires.distinct
      c.requires.new;
  same = refl;
  room = omega arith;
}

pub loop-at-preserved : goal.loop-at-preserved
loop-at-preserved c =
    let news = c.args.news.now in
    let free = c.in_ok-free.free.items in
    let at = c.loop-at.at in
    let lent = c.deref.ensures.value in
    let goes = c.loop-at.invariant.goes in
    let d : Weighted = record { addr = record { ip = 0; port = 0 }; weight = 0 } in
    elim c.match-get.branch [
      | in-Some+in_ok-slots w ↦
          let within : c.loop-at.at < length c.in_ok-free.free.items =
          omega (arith, ap length lent, w.in-Some.ensures.lookup.3.0) in
          let slot = rw lent at (w.in-Some.ensures.lookup.3.1 0) in
          let is = w.slots-is ∙ w.in_ok-slots.ensures in
          record {
            goes = subst (λ m. Goes m (drop (at + 1) news) (drop (at + 1) free) (at + 1)) (sym is)
                (step_some c.loop-at.slots news free at d c.loop-at-test.true goes within
                w.in-Some.slot.now slot);
            same = ap (λ m. assigned m (drop (at + 1) news) (drop (at + 1) free)) is
                ∙ (assigned_next news free at d c.loop-at-test.true c.loop-at.slots
                w.in-Some.slot.now within slot ∙ c.loop-at.invariant.same);
            room = omega (
              arith,
              ap len is,
              len_insert c.loop-at.slots
                  (get_or news at d).addr w.in-Some.slot.now,
              c.loop-at.invariant.room,
            );
          }
      | in_default w ↦
          let past : length c.in_ok-free.free.items ≤ c.loop-at.at =
          omega (arith, ap length lent, w.in_default.ensures.lookup.3) in
          record {
            goes = subst (λ m. Goes m (drop (at + 1) news) (drop (at + 1) free) (at + 1))
                (sym w.slots-is) (step_none c.loop-at.slots news free at d c.loop-at-test.true goes
                past);
            same = ap (λ m. assigned m (drop (at + 1) news) (drop (at + 1) free)) w.slots-is
                ∙ (assigned_none news free at d c.loop-at-test.true c.loop-at.slots past
                ∙ c.loop-at.invariant.same);
            room = omega (arith, ap len w.slots-is, c.loop-at.invariant.room);
          }
    ]

pub returns : goal.returns
returns c =
    sym (assigned_end c.loop-at.slots c.args.news.now
    (drop c.loop-at.at c.in_ok-free.free.items) c.loop-at.at (omega arith))
    ∙ (c.loop-at.invariant.same
    ∙ lowest_assigned c.args.self c.self.inside.taken c.self.inside.count
    (subst (λ m. IsSlotMap m c.self.inside.taken c.self.inside.count) c.self.view_is
    c.self.invariant) c.args.news.now
    c.requires.few c.in_ok-free.free.items c.in_ok-free.ensures)
