use Rattle.std.proofs.Common.{sym, arith}
use Rattle.std.proofs.lemmas.List.{take_all}
use Rattle.body_wire.specs.Chunks.{most_line}
use Rattle.body_wire.proofs.line.window_of.Goals as goal

pub returns-then-bytes-lt-MOST_LINE : goal.returns-then-bytes-lt-MOST_LINE
returns-then-bytes-lt-MOST_LINE c = sym (take_all most_line c.args.bytes.now (omega arith))
