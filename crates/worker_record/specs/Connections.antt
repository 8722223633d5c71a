-- What a worker counts of connections, and where it publishes that.
use Rattle.std.specs.Prelude.{◌≡◌, ℕ, List, slice_index_or}
use Rattle.exchange_record.specs.declared.recorder.ConnectionStep.{ConnectionStep}
use Rattle.exchange_record.specs.declared.recorder.ConnectionStep.TheVariants.{Came, Left, Taken}
use Rattle.exchange_record.specs.declared.recorder.ConnectionStep.TheVariants.{Finished}
use Rattle.exchange_tally.specs.Tallies.{grown}
use Rattle.worker_record.specs.declared.connections.ConnectionCounts.{ConnectionCounts}

abbrev pub count_of : ConnectionStep → ConnectionCounts → ℕ
count_of Came c = c.came
count_of Left c = c.left
count_of Taken c = c.taken
count_of Finished c = c.finished

-- the counts with one step more
abbrev pub after_step : ConnectionStep → ConnectionCounts → ConnectionCounts
after_step Came c = record c { came = grown c.came 1 }
after_step Left c = record c { left = grown c.left 1 }
after_step Taken c = record c { taken = grown c.taken 1 }
after_step Finished c = record c { finished = grown c.finished 1 }

-- their places, behind those of the lines
abbrev pub step_place : ConnectionStep → ℕ
step_place Came = 48
step_place Finished = 49
step_place Left = 50
step_place Taken = 51

-- the counts that were published are these
abbrev pub AreSteps : ConnectionCounts → List ℕ → Type 0
AreSteps c counts =
    (step : ConnectionStep) → slice_index_or counts (step_place step) 0 ≡ count_of step c
