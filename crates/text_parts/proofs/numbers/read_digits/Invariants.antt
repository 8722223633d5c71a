use Rattle.std.proofs.Common.{◌≡◌, ◌≤◌, drop}
use Rattle.text_parts.specs.Numbers.{digits_behind}
use Rattle.text_parts.proofs.numbers.read_digits.Given as goal

abbrev pub invariant-loop-byte : goal.invariant-loop-byte
invariant-loop-byte l = record {
  few : l.number ≤ l.most;
  same : digits_behind l.number (drop l.byte-index l.text) ≡ digits_behind 0 l.text;
}
