use Rattle.std.proofs.Common.{sym, ◌∙◌, arith}
use Rattle.choose_core.proofs.Nearing.{gap_here}
use Rattle.choose_core.proofs.marked.settled.Goals as goal

pub returns-in-Greater-clause-absent : goal.returns-in-Greater-clause-absent
returns-in-Greater-clause-absent c =
    gap_here c.args.items.now c.requires c.args.addr c.args.at _
    (c.is_behind.ensures c.if-not-is_behind.false) (omega arith)
    (sym c.cmp.ensures ∙ c.in-Greater.is)
