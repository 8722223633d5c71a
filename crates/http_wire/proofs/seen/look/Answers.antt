use Rattle.std.proofs.Common.{sym, subst, ◌∙◌}
use Rattle.http_wire.specs.Parsed.{Parses}
use Rattle.http_wire.proofs.Looks.{partial_open}
use Rattle.http_wire.proofs.seen.look.Goals as goal

pub returns-in-Ok-Partial : goal.returns-in-Ok-Partial
returns-in-Ok-Partial c =
    let found = subst (Parses c.window_of-window.result.now) c.in-Ok-Partial.field-0-is
    c.in-Ok-Partial.ensures in
    c.open-in-Ok-Partial.ensures
    (partial_open c.args.bytes.now c.window_of-window.result.now c.in-Some.line.now
    c.window_of-window.ensures c.in-Some.ensures
    (sym c.if-names_other_version.false ∙ c.names_other_version.ensures) found.0 found.1)
