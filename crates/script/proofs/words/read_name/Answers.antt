use Rattle.std.proofs.Common.{Some, sym, ◌∙◌, ap}
use Rattle.addr_book.proofs.Naming.{name_known, name_unknown}
use Rattle.script.proofs.words.read_name.Goals as goal

pub returns-in-Ok : goal.returns-in-Ok
returns-in-Ok c = name_known c.args.word.now c.in-Ok.ensures.name ∙ ap Some (sym c.in-Ok.ensures.ok)

pub returns-in-Err-NotName : goal.returns-in-Err-NotName
returns-in-Err-NotName c = λ _. name_unknown c.args.word.now
    (c.in-Err-NotName.ensures.not_name c.in-Err-NotName.field-0-is)
