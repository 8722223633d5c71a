use Rattle.std.proofs.Common.{sym, ◌∙◌}
use Rattle.addr_book.proofs.Hosts.{cut_found, cut_none}
use Rattle.addr_book.proofs.host.cut_at_point.Goals as goal

pub returns-in-Some : goal.returns-in-Some
returns-in-Some c = cut_found _ _ _ (sym c.in-Some.is ∙ c.first_point.ensures)

pub returns-in-None : goal.returns-in-None
returns-in-None c = cut_none _ _ (sym c.in-None.is ∙ c.first_point.ensures)
