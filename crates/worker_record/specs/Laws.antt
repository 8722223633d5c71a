-- The counts of a worker after many exchanges.
use Rattle.std.specs.Prelude.{List, [], ◌∷◌}
use Rattle.exchange_record.specs.Told.{Records, Told}
use Rattle.exchange_tally.specs.declared.done.Timed.{Timed}
use Rattle.exchange_tally.specs.Tallies.{AddsAll}
use Rattle.worker_record.specs.Recording.{Begins, Ends, RecordValue, timed_by}

-- the exchanges that a worker was told of, each with the moments that its clock gave as it began
-- and as it ended
abbrev pub timed_in : (old : RecordValue) (told : List Told) (new : RecordValue)
    → Records Begins Ends old told new → List Timed
timed_in old [] new same = []
timed_in old (told ∷ more) new (begun, ended, begins, ends, rest) =
    timed_by told begun.begun ends.ended ∷ timed_in ended more new rest

-- a worker that was told of exchanges has added each once, in order, with these moments
abbrev pub RecordsAddUp : Type 0
RecordsAddUp =
    (old : RecordValue) (told : List Told) (new : RecordValue)
    → (records : Records Begins Ends old told new)
    → AddsAll old.tally (timed_in old told new records) new.tally
