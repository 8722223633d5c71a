use Rattle.std.proofs.Common.{sym, subst}
use Rattle.ns_store.specs.Contents.{Contents as Store}
use Rattle.choose_core.specs.Marks.{MarkMap}
use Rattle.machine.specs.Sound.{AreSoundSpaces}
use Rattle.machine.proofs.Known.{AreKnown, known_nothing}
use Rattle.machine.proofs.Sounds.{sound_nothing}
use Rattle.machine.proofs.state.State.start.Goals as goal

pub invariant_of-result-clause-sound : goal.invariant_of-result-clause-sound
invariant_of-result-clause-sound c =
    subst (λ (s : Store). AreSoundSpaces s.spaces) (sym c.in_ok-start.ensures) sound_nothing

pub invariant_of-result-clause-known : goal.invariant_of-result-clause-known
invariant_of-result-clause-known c =
    subst (λ (m : MarkMap). AreKnown m c.in_ok-start-2.field-0.services)
    (sym c.in_ok-start-3.ensures) (known_nothing c.in_ok-start-2.field-0.services)
