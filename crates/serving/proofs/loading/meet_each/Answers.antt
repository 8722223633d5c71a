use Rattle.std.proofs.Common.{◌≡◌, ◌++◌, [], List, suc, append-nil, ap, length, refl, rules, sym}
use Rattle.std.proofs.Common.{subst, ◌∙◌}
use Rattle.std.specs.Prelude.{sum_by}
use Rattle.std.specs.Vec.Iter.{into_iter_items}
use Rattle.router.specs.declared.pass.Pass.{Pass}
use Rattle.router.specs.Closing.{numbers_of}
use Rattle.router.specs.Passes.{made_in, number_in, seen_in}
use Rattle.router.proofs.Closing.{map_length}
use Rattle.serving.specs.Passes.{AreFree}
use Rattle.serving.proofs.Chains.{free_first, free_push, free_rest, numbers_moved}
use Rattle.serving.proofs.Handing.{none_here}
use Rattle.serving.proofs.Meeting.{room_by, room_for_all, seen_by_none}
use Rattle.serving.proofs.Moving.{moved_all, none_moved, room_there}
use Rattle.serving.proofs.Refusing.{made_moved, same_made}
use Rattle.serving.proofs.Services.{met_push, prefix_trans}
use Rattle.serving.proofs.Zipping.{nothing_left}
use Rattle.serving.proofs.loading.meet_each.Goals as goal

pub loop-other-preserved : goal.loop-other-preserved
loop-other-preserved g c =
    let inv = c.loop-other.invariant in
    let other = c.in-Some.other in
    let cut = c.in-Some.ensures.steps.0 in
    let grown = c.push_reserved.ensures.items in
    let numbers = c.meet.ensures.numbers in
    let first = c.meet.ensures.met.first in
    let second = c.meet.ensures.met.second in
    let met = c.loop-other.met.items in
    record {
      numbers = numbers_moved met _ _ _ other c.meet.new.b _ cut grown numbers.1 inv.numbers;
      met = subst AreFree (sym grown)
          (free_push met c.meet.new.b inv.met
          (second.seat.slot ∙ free_first _ _ other cut inv.rest));
      rest = free_rest _ _ other cut inv.rest;
      room = search rules;
      capacity = search rules;
      made = same_made _ _ numbers.0 first ∙ inv.made;
      sums = made_moved met _ _ _ other c.meet.new.b _ cut grown
          (same_made _ _ numbers.1 second) inv.sums;
      number = numbers.0 ∙ inv.number;
      slot = first.seat.slot ∙ inv.slot;
      seen = prefix_trans _ _ _ inv.seen first.seen;
      all = met_push _ _ _ met _ c.meet.new.b grown inv.seen first.seen
          (sym c.meet.ensures.met.one) inv.all;
    }

pub loop-other-init : goal.loop-other-init
loop-other-init g c =
    let gives = c.into_iter-other-iterator.ensures.into_iter_gives in
    let left = into_iter_items c.into_iter-other-iterator.result in
    let met = c.args.met.now in
    let pass = c.args.pass.now in
    let none = none_here met.items (sym met.ok.0 ∙ c.requires.room.0) in
    let sum = λ (ps : List (Pass g.row.J.Denot g.J.Naming)). sum_by made_in ps in
    record {
      numbers = ap (λ (ps : List (Pass g.row.J.Denot g.J.Naming)). numbers_of ps
          ++ numbers_of left) none ∙ ap numbers_of gives.0;
      met = subst AreFree (sym none) tt;
      rest = subst AreFree (sym gives.0) c.requires.free;
      room = room_for_all met.items left c.args.others.items _ _ none gives.0 c.args.others.ok.0
          c.requires.room.1;
      capacity = refl;
      made = refl;
      sums = none_moved _ _ _ (ap sum none) (ap sum gives.0);
      number = refl;
      slot = refl;
      seen = ([], append-nil (seen_in pass));
      all = seen_by_none (seen_in pass) met.items none;
    }

pub push_reserved-requires : goal.push_reserved-requires
push_reserved-requires g c =
    let shorter : length (into_iter_items c.loop-other.other-iterator)
    ≡ suc (length (into_iter_items c.next.new.self)) = ap length c.in-Some.ensures.steps.0 in
    room_there _ _ _ _ shorter
    (room_by c.loop-other.met.items _ _ _ c.loop-other.met.ok.0 c.loop-other.invariant.room)

pub returns-clause-numbers : goal.returns-clause-numbers
returns-clause-numbers g c =
    let left = into_iter_items c.loop-other.other-iterator in
    let none : length left ≡ 0 = sym c.loop-other.other-iterator.rest.ok.0
    ∙ c.in-None.ensures.steps.0 in
    nothing_left (numbers_of c.loop-other.met.items) (numbers_of left) _
    (map_length (λ (p : Pass g.row.J.Denot g.J.Naming). number_in p) left ∙ none)
    c.loop-other.invariant.numbers

pub returns-clause-made : goal.returns-clause-made
returns-clause-made g c =
    let inv = c.loop-other.invariant in
    let left = into_iter_items c.loop-other.other-iterator in
    let none : length left ≡ 0 = sym c.loop-other.other-iterator.rest.ok.0
    ∙ c.in-None.ensures.steps.0 in
    let sum = λ (ps : List (Pass g.row.J.Denot g.J.Naming)). sum_by made_in ps in
    (inv.made, moved_all _ _ _ (ap sum (none_here left none)) inv.sums)
