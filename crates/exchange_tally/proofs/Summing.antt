-- Many exchanges, one after another.
use Rattle.std.proofs.Common.{◌≡◌, ℕ, ◌+◌, ◌-◌, ◌^◌, min, max, arith, List, [], ◌∷◌, refl, sym, ap}
use Rattle.std.proofs.Common.{◌∙◌}
use Rattle.std.specs.Prelude.{sum_by}
use Rattle.std.proofs.lemmas.List.Sums.{sum_by-cons}
use Rattle.exchange_tally.specs.declared.done.Timed.{Timed}
use Rattle.exchange_tally.specs.declared.figure.Figure.{Figure}
use Rattle.exchange_tally.specs.declared.tally.Tally.{Tally}
use Rattle.exchange_tally.specs.Laws.{ClassesAddUp, TalliesAddUp}
use Rattle.exchange_tally.specs.Tallies.{AddsAll, count_in, grown}
use Rattle.exchange_tally.specs.Worth.{worth}

-- to raise a count by two numbers, one after the other, is to raise it by their sum
grown_twice : (count a b : ℕ) → grown (grown count a) b ≡ grown count (a + b)
grown_twice count a b = omega arith

grown_none : (count : ℕ) → count ≡ grown count 0
grown_none count = omega arith

pub tallies_add_up : TalliesAddUp
tallies_add_up old [] new adds f = adds f ∙ grown_none (count_in old f)
tallies_add_up old (done ∷ more) new (mid, first, rest) f =
    tallies_add_up mid more new rest f
    ∙ (ap (λ n. grown n (sum_by (worth f) more)) (first f)
    ∙ (grown_twice (count_in old f) (worth f done) (sum_by (worth f) more)
    ∙ ap (λ n. grown (count_in old f) n) (sym (sum_by-cons (worth f) done more))))
