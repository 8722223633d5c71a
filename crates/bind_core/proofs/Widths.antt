-- A delegation is too wide exactly where its lookups are over the limit.
use Rattle.std.proofs.Common.{◌≡◌, ◌↔◌, ℕ, ◌+◌, List, length, true, false, refl, sym, ap, ◌∙◌}
use Rattle.std.proofs.Common.{arith, inl, inr}
use Rattle.std.specs.Prelude.{nat_lt, min}
use Rattle.std.proofs.lemmas.Bool.{cases_lt}
use Rattle.std.proofs.lemmas.Bool.Decides.{nat_tests}
use Rattle.name_tree.specs.Path.{Labels}
use Rattle.dtab_table.specs.Rules.{Rule}
use Rattle.bind_core.specs.declared.outcome.Outcome.{Outcome}
use Rattle.bind_core.specs.declared.outcome.Outcome.TheVariants as outcome
use Rattle.bind_core.specs.Outcome.{ending_of}
use Rattle.bind_core.specs.Delegation.{too_wide, Names, lookup, within_width, most_wide}
use Rattle.bind_core.proofs.Narrow.{lookup-IsNarrow}

ending_of-too_wide : (o : Outcome) → ending_of o ≡ too_wide → o ≡ outcome.TooWide
ending_of-too_wide outcome.Neg h = cc
ending_of-too_wide outcome.Fail h = cc
ending_of-too_wide outcome.Empty h = cc
ending_of-too_wide outcome.TooDeep h = cc
ending_of-too_wide outcome.TooWide h = refl
ending_of-too_wide (outcome.Bound found) h = cc

-- the answer is that exactly where one lookup more than the limit is counted
pub width : (rules : List Rule) (names : Names) (left : ℕ) (path : Labels) (o : Outcome) (cost : ℕ)
    → ending_of o ≡ within_width (lookup rules names left path)
    → cost ≡ min (length (lookup rules names left path).1) (most_wide + 1)
    → (o ≡ outcome.TooWide) ↔ (cost ≡ most_wide + 1)
width rules names left path o cost outcome_is cost_is =
    let told = lookup rules names left path in
    elim (cases_lt most_wide (length told.1)) [
      | inl many ↦
          (let test : nat_lt most_wide (length told.1) ≡ true = grind (arith, nat_tests) in
          let wide : within_width told ≡ too_wide = rw test refl in
          (λ h. omega (arith, cost_is), λ h. ending_of-too_wide o (outcome_is ∙ wide)))
      | inr few ↦
          (let test : nat_lt most_wide (length told.1) ≡ false = grind (arith, nat_tests) in
          let narrow : within_width told ≡ told.0 = rw test refl in (
            λ h. absurd (lookup-IsNarrow rules names left path
                (sym narrow ∙ (sym outcome_is ∙ ap ending_of h))),
            λ h. absurd (omega (arith, cost_is)),
          ))
    ]
