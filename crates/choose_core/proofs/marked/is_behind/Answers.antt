use Rattle.std.proofs.Common.{sym, ◌∙◌, arith}
use Rattle.choose_core.proofs.Nearing.{all_behind}
use Rattle.choose_core.proofs.marked.is_behind.Goals as goal

pub returns-in-Less : goal.returns-in-Less
returns-in-Less c = λ _. all_behind c.args.items.now c.requires.order c.args.addr c.args.at _
    (omega arith) c.requires.within (sym c.cmp.ensures ∙ c.in-Less.is)
