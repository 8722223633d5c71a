use Rattle.text_parts.proofs.Digits.{numbers}
use Rattle.text_parts.proofs.laws.numbers_are_exact.Goals as goal

pub returns : goal.returns
returns c = numbers
