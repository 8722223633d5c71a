use Rattle.std.proofs.Common.{◌≡◌, drop, take, ◌++◌}
use Rattle.text_parts.specs.Words.{before_byte, behind_byte}
use Rattle.text_parts.proofs.words.cut_at.Given as goal

abbrev pub invariant-loop-at : goal.invariant-loop-at
invariant-loop-at l = record {
  before : take l.at l.text ++ before_byte l.mark (drop l.at l.text) ≡ before_byte l.mark l.text;
  behind : behind_byte l.mark (drop l.at l.text) ≡ behind_byte l.mark l.text;
}
