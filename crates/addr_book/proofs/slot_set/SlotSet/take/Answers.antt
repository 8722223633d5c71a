use Rattle.std.proofs.Common.{ap, ◌∙◌, ◌==◌, arith}
use Rattle.std.specs.Prelude.{not, ◌&&◌}
use Rattle.addr_book.specs.SlotSet.{has_slot}
use Rattle.addr_book.proofs.Bits.{has-take_read}
use Rattle.addr_book.proofs.slot_set.SlotSet.take.Goals as goal

pub returns : goal.returns
returns c = λ other.
    has-take_read c.self.inside.words.items c.args.slot
    (omega (arith, c.requires, c.self.invariant)) c.index-word.result.now c.index-word.ensures other
    ∙ ap (λ ws. not (c.args.slot == other) && has_slot ws other) c.self.view_is
