use Rattle.std.proofs.Common.{◌≡◌, false, subst}
use Rattle.http_wire.specs.declared.watch.Progress.{Progress}
use Rattle.http_wire.specs.Places.{is_at_end, StandsAt}
use Rattle.http_wire.proofs.Standing.{fields_more}
use Rattle.http_wire.proofs.watch.Progress.after.Goals as goal

pub returns-in-Fields : goal.returns-in-Fields
returns-in-Fields c still bytes stands =
    fields_more bytes c.in-Fields.place c.after.result c.args.byte
    (subst (λ (p : Progress). is_at_end p ≡ false) c.in-Fields.is still) c.after.ensures
    (subst (λ (p : Progress). StandsAt p bytes) c.in-Fields.is stands)
