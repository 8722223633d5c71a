use Rattle.std.proofs.Common.{◌≡◌, drop}
use Rattle.dtab_index.specs.Index.{some_matches_there}
use Rattle.dtab_index.specs.Parts.{placed_by}
use Rattle.dtab_index.proofs.parts.matches_any.Given as goal

abbrev pub invariant-loop-part : goal.invariant-loop-part
invariant-loop-part l = some_matches_there l.from l.to (placed_by l.parts) l.path
    ≡ some_matches_there l.from l.to (placed_by (drop l.part-index l.parts)) l.path
