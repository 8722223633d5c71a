use Rattle.std.proofs.Common.{◌≡◌, drop, take, ◌++◌}
use Rattle.text_parts.specs.Words.{word_of, behind_word}
use Rattle.text_parts.proofs.words.word_end.Given as goal

abbrev pub invariant-loop-at : goal.invariant-loop-at
invariant-loop-at l = record {
  word : take l.at l.text ++ word_of (drop l.at l.text) ≡ word_of l.text;
  rest : behind_word (drop l.at l.text) ≡ behind_word l.text;
}
