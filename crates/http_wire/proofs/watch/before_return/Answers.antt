use Rattle.std.proofs.Common.{ℕ, [], ◌∷◌, ◌++◌, sym, subst}
use Rattle.http_wire.specs.declared.watch.Progress.TheVariants.{Before}
use Rattle.http_wire.specs.Places.{StandsAt}
use Rattle.http_wire.proofs.Standing.{return_feed, return_other}
use Rattle.http_wire.proofs.watch.before_return.Goals as goal

pub returns-then-byte-eq10 : goal.returns-then-byte-eq10
returns-then-byte-eq10 c still bytes stands =
    subst (λ (b : ℕ). StandsAt Before (bytes ++ b ∷ [])) (sym c.if-byte-eq10.true)
    (return_feed bytes stands)

pub returns-else-byte-eq10 : goal.returns-else-byte-eq10
returns-else-byte-eq10 c still bytes stands =
    return_other bytes c.args.byte c.if-byte-eq10.false stands
