use Rattle.std.proofs.Common.{rules}
use Rattle.http_wire.specs.Heads.{window}
use Rattle.http_wire.proofs.Looks.{all_count}
use Rattle.http_wire.proofs.seen.window_of.Goals as goal

pub returns-then-bytes-lt-MOST_HEAD : goal.returns-then-bytes-lt-MOST_HEAD
unfolding window
returns-then-bytes-lt-MOST_HEAD c = all_count 65536 c.args.bytes.now c.if-bytes-lt-MOST_HEAD.true

pub returns-else-bytes-lt-MOST_HEAD : goal.returns-else-bytes-lt-MOST_HEAD
unfolding window
returns-else-bytes-lt-MOST_HEAD c = search rules
