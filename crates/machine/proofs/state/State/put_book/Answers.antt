use Rattle.std.proofs.Common.{sym, subst}
use Rattle.choose_core.specs.Marks.{MarkMap}
use Rattle.machine.proofs.Known.{AreKnown, known_kept}
use Rattle.machine.proofs.state.State.put_book.Goals as goal

pub invariant_of-self-2-clause-sound : goal.invariant_of-self-2-clause-sound
invariant_of-self-2-clause-sound c = c.args.self.now.sound

pub invariant_of-self-2-clause-known : goal.invariant_of-self-2-clause-known
invariant_of-self-2-clause-known c =
    subst (λ (m : MarkMap). AreKnown m c.absorb.new.self.services) (sym c.keep.ensures)
    (known_kept c.args.self.now.marks c.absorb.new.self.services)
