use Rattle.text_parts.proofs.LinesTexts.{text_lines}
use Rattle.text_parts.proofs.laws.lines_are_exact.Goals as goal

pub returns : goal.returns
returns c = text_lines
