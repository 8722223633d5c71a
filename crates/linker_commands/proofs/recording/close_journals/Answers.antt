use Rattle.std.proofs.Common.{◌≡◌, List, ap, sym, ◌∙◌}
use Rattle.std.specs.Prelude.{Option}
use Rattle.std.specs.Vec.Iter.{into_iter_items}
use Rattle.line_log.specs.Logged.{Logged}
use Rattle.worker_record.specs.Recording.{RecordValue}
use Rattle.linker_commands.specs.Recorded.{with_logs, with_own}
use Rattle.linker_commands.proofs.recording.close_journals.Goals as goal

pub loop-worker-preserved : goal.loop-worker-preserved
loop-worker-preserved g c =
    let inv = c.loop-worker.invariant in
    let rest : List RecordValue = into_iter_items c.next.new.self in
    let old : Option (List Logged) = g.O.Journals.closed c.loop-worker.journals in
    let new : Option (List Logged) = g.O.Journals.closed c.close_journal.new.journals in
    let worker : RecordValue = c.in-Some.worker in
    let closed : new ≡ with_own old worker.log =
    c.in_ok-close_journal.ensures ∙ ap (with_own old) c.into_journal.ensures in
    ap (λ (logs : Option (List Logged)). with_logs logs rest) closed
    ∙ (ap (with_logs old) (sym c.in-Some.ensures.steps.0) ∙ inv)
