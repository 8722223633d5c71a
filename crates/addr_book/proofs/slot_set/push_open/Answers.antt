use Rattle.std.proofs.Common.{◌+◌, ◌-◌, ◌<◌, ◌++◌, ap, ◌∙◌, sym, arith}
use Rattle.std.proofs.lemmas.Nat.Bits.{shr_and_one}
use Rattle.addr_book.specs.SlotSet.{open_slots}
use Rattle.addr_book.proofs.Bits.{open_bit, taken_bit, bit_set, bits_end}
use Rattle.addr_book.proofs.slot_set.push_open.Goals as goal
use Rattle.addr_book.proofs.slot_set.push_open.Goals.{then-word-bit-eq0+in_ok-push}
use Rattle.addr_book.proofs.slot_set.push_open.Goals.{else-word-bit-eq0}

pub loop-bit-preserved : goal.loop-bit-preserved
loop-bit-preserved c = λ taken h.
    let bit = c.loop-bit.bit in
    let first = c.args.first in
    let word = c.args.word in
    let lt : c.loop-bit.bit < 64 = omega arith in
    elim c.if-word-bit-eq0.branch [
      | then-word-bit-eq0+in_ok-push w ↦
          ap (λ v. v.items ++ open_slots taken (64 - (bit + 1)) (first + (bit + 1))) w.slots-is
          ∙ (ap (λ xs. xs ++ open_slots taken (64 - (bit + 1)) (first + (bit + 1)))
          w.in_ok-push.ensures.items
          ∙ open_bit taken word first bit lt (h bit lt) c.loop-bit.slots.items _
          (c.loop-bit.invariant taken h) (sym (shr_and_one word bit) ∙ w.if-word-bit-eq0.true))
      | else-word-bit-eq0 w ↦
          ap (λ v. v.items ++ open_slots taken (64 - (bit + 1)) (first + (bit + 1))) w.slots-is
          ∙ taken_bit taken word first bit lt (h bit lt) c.loop-bit.slots.items _
          (c.loop-bit.invariant taken h)
          (bit_set word bit (λ clear. w.if-word-bit-eq0.false (shr_and_one word bit ∙ clear)))
    ]

pub returns : goal.returns
returns c = λ taken h. bits_end taken c.args.first c.loop-bit.bit c.loop-bit.slots.items _
    (omega arith) (c.loop-bit.invariant taken h)
