use Rattle.std.proofs.Common.{ℕ, [], ◌∷◌, ◌++◌, sym, subst}
use Rattle.http_wire.specs.declared.section.Place.TheVariants.{Start}
use Rattle.http_wire.specs.declared.watch.Progress.TheVariants.{Fields}
use Rattle.http_wire.specs.Places.{StandsAt}
use Rattle.http_wire.proofs.Standing.{line_feed_ends}
use Rattle.http_wire.proofs.watch.line.Goals as goal

pub returns-then-byte-eq10 : goal.returns-then-byte-eq10
returns-then-byte-eq10 c still bytes stands =
    subst (λ (b : ℕ). StandsAt (Fields Start) (bytes ++ b ∷ [])) (sym c.if-byte-eq10.true)
    (line_feed_ends bytes stands)
