use Rattle.std.proofs.Common.{◌≡◌}
use Rattle.std.specs.Vec.Iter.{into_iter_items}
use Rattle.linker_commands.specs.Recorded.{with_logs}
use Rattle.linker_commands.proofs.recording.close_journals.Given as goal

abbrev pub invariant-loop-worker : goal.invariant-loop-worker
invariant-loop-worker g l =
    with_logs (g.O.Journals.closed l.journals) (into_iter_items l.worker-iterator)
    ≡ with_logs (g.O.Journals.closed l.fn.journals) l.fn.workers.items
