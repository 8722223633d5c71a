-- What a worker was told of is what it has counted.
use Rattle.std.proofs.Common.{List, [], ◌∷◌, ap, subst}
use Rattle.exchange_tally.specs.declared.tally.Tally.{Tally}
use Rattle.exchange_tally.specs.Tallies.{Adds, count_in}
use Rattle.worker_record.specs.Laws.{RecordsAddUp}
use Rattle.worker_record.specs.Recording.{RecordValue, timed_by}

pub records_add_up : RecordsAddUp
records_add_up old [] new same = λ f. ap (λ (r : RecordValue). count_in r.tally f) same
records_add_up old (told ∷ more) new (begun, ended, begins, ends, rest) =
    let timed = timed_by told begun.begun ends.ended in
    let added : Adds old.tally timed ended.tally =
    subst (λ (t : Tally). Adds t timed ended.tally) begins.tally ends.tally in (
      ended.tally,
      added,
      records_add_up ended more new rest,
    )
