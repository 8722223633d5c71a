use Rattle.std.proofs.Common.{sym, ◌∙◌, true≢false}
use Rattle.addr_book.proofs.Naming.{name_known, name_unknown}
use Rattle.addr_book.proofs.name.is_name.Goals as goal

pub returns-clause-known : goal.returns-clause-known
returns-clause-known c = λ is. name_known c.args.text.now (c.has_name_bytes.ensures.0 is)

pub returns-clause-unknown : goal.returns-clause-unknown
returns-clause-unknown c =
    λ not. name_unknown c.args.text.now
    (λ name. true≢false (sym (c.has_name_bytes.ensures.1 name) ∙ not))
