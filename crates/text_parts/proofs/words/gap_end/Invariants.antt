use Rattle.std.proofs.Common.{◌≡◌, drop}
use Rattle.text_parts.specs.Words.{drop_gaps}
use Rattle.text_parts.proofs.words.gap_end.Given as goal

abbrev pub invariant-loop-at : goal.invariant-loop-at
invariant-loop-at l = drop_gaps (drop l.at l.text) ≡ drop_gaps l.text
