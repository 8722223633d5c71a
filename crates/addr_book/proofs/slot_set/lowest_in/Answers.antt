use Rattle.std.proofs.Common.{ap, ◌∙◌, refl, arith, inl}
use Rattle.addr_book.specs.SlotSet.{has_slot, open_slots}
use Rattle.addr_book.proofs.Bits.{has_word, word_more, word_full}
use Rattle.addr_book.proofs.slot_set.lowest_in.Goals as goal
use Rattle.addr_book.proofs.slot_set.lowest_in.Goals.{then-word+in_ok-push_open, else-word}

pub loop-at-init : goal.loop-at-init
unfolding open_slots
loop-at-init c = c.in_ok-slots.ensures.items

pub loop-at-preserved : goal.loop-at-preserved
loop-at-preserved c =
    let words = c.args.words.now in
    let at = c.loop-at.at in
    elim c.if-word.branch [
      | then-word+in_ok-push_open w ↦
          word_more words at c.loop-at.slots.items _ c.loop-at.invariant
          (ap (λ v. v.items) w.slots-is ∙ w.in_ok-push_open.ensures (has_slot words)
          (λ bit lt. has_word words at _ refl bit lt))
      | else-word w ↦ ap (λ v. v.items) w.slots-is
          ∙ word_full words at _ refl w.if-word.false c.loop-at.slots.items c.loop-at.invariant
    ]

pub returns-then-count-eq0 : goal.returns-then-count-eq0
unfolding open_slots
returns-then-count-eq0 c = record {
  end = 0;
  below = omega arith;
  lowest = c.new.ensures.items;
  enough = inl (omega (arith, c.if-count-eq0.true));
}
