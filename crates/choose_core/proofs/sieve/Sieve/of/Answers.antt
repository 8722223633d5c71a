use Rattle.std.proofs.Common.{◌≡◌, ℕ, ◌==◌, true, false, length, sym, ◌∙◌, arith}
use Rattle.std.proofs.lemmas.Bool.Decides.{nat_tests}
use Rattle.choose_core.proofs.Passing.{all_over}
use Rattle.choose_core.proofs.Telling.{by_count}
use Rattle.choose_core.proofs.sieve.Sieve.of.Goals as goal
use Rattle.choose_core.proofs.sieve.Sieve.of.Goals.{then-count-eq0, else-count-eq0}

pub returns-then-are_over-clause-passing : goal.returns-then-are_over-clause-passing
returns-then-are_over-clause-passing c =
    all_over c.args.marks.now c.args.moment c.args.limits c.args.list.now
    (c.are_over.ensures c.if-are_over.true)

is_count : (m n : ℕ) → (m == n) ≡ true → m ≡ n
is_count m n e = grind (arith, nat_tests)

zero_test : (n : ℕ) → n ≡ 0 → (n == 0) ≡ true
zero_test n e = grind (arith, nat_tests)

never : true ≡ false → ⊥
never e = cc

pub returns-clause-passing : goal.returns-clause-passing
returns-clause-passing c =
    let count = c.alive_in-count.result.1 in
    let few : c.if-count-eq0.result ≡ true → (count ≡ 0 → ⊥) → count ≡ length c.args.list.now =
    elim c.if-count-eq0.branch [
      | then-count-eq0 w ↦ λ all more. absurd (more w.if-count-eq0.true)
      | else-count-eq0 w ↦ λ all more. is_count count (length c.args.list.now)
          (sym w.result-is ∙ all)
    ] in
    let some : c.if-count-eq0.result ≡ false → count ≡ 0 → ⊥ = elim c.if-count-eq0.branch [
      | then-count-eq0 w ↦ λ all none. never
          (sym (zero_test count w.if-count-eq0.true) ∙ (sym w.result-is ∙ all))
      | else-count-eq0 w ↦ λ all none. w.if-count-eq0.false none
    ] in
    by_count c.args.marks.now c.args.moment c.args.limits c.args.list.now count
    c.alive_in-count.ensures.count c.if-count-eq0.result few some
