use Rattle.std.proofs.Common.{sym, arith}
use Rattle.std.proofs.lemmas.List.{drop_all}
use Rattle.signal_watch.proofs.Digits.{no_more}
use Rattle.signal_watch.proofs.status.number_in.Goals as goal

pub returns-then-line-lt8 : goal.returns-then-line-lt8
returns-then-line-lt8 c = let a = c.if-line-lt8.true in
    rw (drop_all 8 c.args.line.now (omega (arith))) (sym (no_more 0))
