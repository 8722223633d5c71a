use Rattle.std.proofs.Common.{◌≡◌, ◌<◌, ◌≤◌, ℕ, ◌&&◌, drop}
use Rattle.dtab_index.specs.Bits.{has}
use Rattle.dtab_index.specs.Columns.{passes}
use Rattle.dtab_index.proofs.columns.left_by.Given as goal

abbrev pub invariant-loop-at : goal.invariant-loop-at
invariant-loop-at l = (place : ℕ) → l.first ≤ place → place < 1024
    → (has l.left.words place && passes (drop l.at l.columns) (drop l.at l.path) place)
    ≡ passes l.columns l.path place
