use Rattle.std.proofs.Common.{ap, ◌∙◌, ◌==◌, arith}
use Rattle.std.specs.Prelude.{◌||◌}
use Rattle.addr_book.specs.SlotSet.{has_slot}
use Rattle.addr_book.proofs.Bits.{has-put_read}
use Rattle.addr_book.proofs.slot_set.SlotSet.put.Goals as goal

pub returns : goal.returns
returns c = λ other.
    has-put_read c.self.inside.words.items c.args.slot
    (omega (arith, c.requires, c.self.invariant)) c.index-word.result.now c.index-word.ensures other
    ∙ ap (λ ws. c.args.slot == other || has_slot ws other) c.self.view_is
