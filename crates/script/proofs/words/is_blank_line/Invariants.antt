use Rattle.std.proofs.Common.{◌≡◌, drop}
use Rattle.script.specs.Words.{drop_blanks}
use Rattle.script.proofs.words.is_blank_line.Given as goal

abbrev pub invariant-loop-byte : goal.invariant-loop-byte
invariant-loop-byte l = drop_blanks (drop l.byte-index l.line) ≡ drop_blanks l.line
