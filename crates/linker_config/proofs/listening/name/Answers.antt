use Rattle.std.proofs.Common.{ap, Ok, Err, sym, ◌∙◌, subst}
use Rattle.addr_book.specs.Name.{IsName}
use Rattle.linker_config.proofs.Names.{name_value-name, name_value-other}
use Rattle.linker_config.proofs.listening.name.Goals as goal

pub returns-in-Ok : goal.returns-in-Ok
returns-in-Ok c =
    let named = subst IsName c.as_bytes.ensures.value c.in-Ok.ensures.name in
    rw (name_value-name c.args.text.now named)
    (ap Ok (sym (c.in-Ok.ensures.ok ∙ c.as_bytes.ensures.value)))

pub returns-in-Err-NotName : goal.returns-in-Err-NotName
returns-in-Err-NotName c =
    let other : ¬ (IsName c.args.text.now) =
    λ named. c.in-Err-NotName.ensures.not_name c.in-Err-NotName.field-0-is
    (subst IsName (sym c.as_bytes.ensures.value) named) in (
      c.bad.ensures.json,
      λ some. rw (name_value-other c.args.text.now other)
          (ap Err (sym (c.bad.ensures.bad some))),
    )
