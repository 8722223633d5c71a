use Rattle.std.proofs.Common.{ℕ, [], ◌∷◌, ◌++◌, sym, subst}
use Rattle.http_wire.specs.declared.watch.Progress.TheVariants.{Before}
use Rattle.http_wire.specs.Places.{StandsAt}
use Rattle.http_wire.proofs.Standing.{before_feed, before_other}
use Rattle.http_wire.proofs.watch.before.Goals as goal

pub returns-then-byte-eq10 : goal.returns-then-byte-eq10
returns-then-byte-eq10 c still bytes stands =
    subst (λ (b : ℕ). StandsAt Before (bytes ++ b ∷ [])) (sym c.if-byte-eq10.true)
    (before_feed bytes stands)

pub returns-else-byte-eq13 : goal.returns-else-byte-eq13
returns-else-byte-eq13 c still bytes stands =
    before_other bytes c.args.byte c.if-byte-eq10.false c.if-byte-eq13.false stands
