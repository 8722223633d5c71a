use Rattle.std.proofs.Common.{ℕ, Vec, Global, sym, ap, ◌∙◌}
use Rattle.dtab_table.proofs.Comparing.{seen_match, seen_other}
use Rattle.dtab_table.proofs.places.compared.Goals as goal
use Rattle.dtab_table.proofs.places.compared.Goals.{then-matches+in_ok-push, else-matches}

pub loop-at-preserved : goal.loop-at-preserved
loop-at-preserved c =
    elim c.if-matches.branch [
      | then-matches+in_ok-push w ↦
          seen_match c.args.entries.now c.args.path.now c.loop-at.at c.index-entries-at.result
          c.loop-at.found.items c.if-matches.found.items c.loop-at-test.true c.index-entries-at.is
          (sym c.matches.ensures ∙ w.if-matches.true)
          (ap (λ (v : Vec ℕ Global). v.items) w.found-is ∙ w.in_ok-push.ensures.items)
          c.loop-at.invariant
      | else-matches w ↦
          seen_other c.args.entries.now c.args.path.now c.loop-at.at c.index-entries-at.result
          c.if-matches.found.items c.loop-at-test.true c.index-entries-at.is
          (sym c.matches.ensures ∙ w.if-matches.false)
          (ap (λ (v : Vec ℕ Global). v.items) w.found-is ∙ c.loop-at.invariant)
    ]
