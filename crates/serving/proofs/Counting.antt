-- As many peers are finished as were accepted, over all listeners.
use Rattle.std.proofs.Common.{◌≡◌, ℕ, ◌+◌, ◌-◌, ◌^◌, ◌≤◌, ◌<◌, List, [], ◌∷◌, length, map, refl, ap}
use Rattle.std.proofs.Common.{◌∙◌, arith}
use Rattle.std.specs.Prelude.{min}
use Rattle.std.specs.List.{AllByRecursion}
use Rattle.line_base.specs.Counts.{added}
use Rattle.line_base.specs.Nets.{Networking, after_end}
use Rattle.router.specs.declared.naming.Naming.{Ghosts}
use Rattle.workers.proofs.Sums.{raised_by_is}
use Rattle.serving.specs.Returning.{all_ended, all_finished, having_finished, with_left_over}
use Rattle.serving.specs.Shifts.{Shift, admissions, admitted_in, returned_in, returns}
use Rattle.serving.proofs.Returning.{finished_accepted, finished_count}

abbrev last_count : ℕ
last_count = 2 ^ 64 - 1

added_none : (count : ℕ) → count ≤ last_count → count ≡ added count 0
added_none count small = omega (arith, small)

added_on : (count one more all : ℕ) → all ≡ one + more
    → added (added count (min one last_count)) more ≡ added count all
added_on count one more all sum = omega (arith, sum)

module _ {J P K : Type 0} {g : Ghosts J} where
  -- its counts are those of its turns, as far as they count
  pub record IsCounted (s : Shift J P K g) : Type 0 where
    pub accepted : s.ended.listener.accepted ≡ min (length (admitted_in s.turns)) last_count
    pub finished : s.ended.listener.finished ≡ min (length (returned_in s.turns)) last_count

  rest_accepted : (ss : List (Shift J P K g)) (n : Networking P) → AllByRecursion IsCounted ss
      → n.accepted ≤ last_count
      → (all_ended (map (λ (s : Shift J P K g). s.ended) ss) n).accepted
      ≡ added n.accepted (admissions ss)
  rest_accepted [] n all small = added_none n.accepted small
  rest_accepted (s ∷ ss) n all small =
      let next : Networking P = after_end n s.ended in
      let here : next.accepted ≡ added n.accepted (min (length (admitted_in s.turns)) last_count) =
      ap (added n.accepted) all.0.accepted in
      let few : next.accepted ≤ last_count = omega (arith, here) in
      rest_accepted ss next all.1 few ∙ (ap (λ (k : ℕ). added k (admissions ss)) here
      ∙ added_on n.accepted (length (admitted_in s.turns)) (admissions ss) (admissions (s ∷ ss))
      refl)

  rest_finished : (ss : List (Shift J P K g)) (n : Networking P) → AllByRecursion IsCounted ss
      → n.finished ≤ last_count
      → (all_ended (map (λ (s : Shift J P K g). s.ended) ss) n).finished
      ≡ added n.finished (returns ss)
  rest_finished [] n all small = added_none n.finished small
  rest_finished (s ∷ ss) n all small =
      let next : Networking P = after_end n s.ended in
      let here : next.finished ≡ added n.finished (min (length (returned_in s.turns)) last_count) =
      ap (added n.finished) all.0.finished in
      let few : next.finished ≤ last_count = omega (arith, here) in
      rest_finished ss next all.1 few ∙ (ap (λ (k : ℕ). added k (returns ss)) here
      ∙ added_on n.finished (length (returned_in s.turns)) (returns ss) (returns (s ∷ ss)) refl)

  -- all of them, the first of which finished those too who waited still
  pub all_accepted : (over : List P) (ss : List (Shift J P K g)) (n : Networking P)
      → 0 < length ss → AllByRecursion IsCounted ss
      → (all_ended (with_left_over over (map (λ (s : Shift J P K g). s.ended) ss)) n).accepted
      ≡ added n.accepted (admissions ss)
  all_accepted over [] n some all = absurd (omega (arith, some))
  all_accepted over (s ∷ ss) n some all =
      let next : Networking P = after_end n (having_finished over s.ended) in
      let here : next.accepted ≡ added n.accepted (min (length (admitted_in s.turns)) last_count) =
      ap (added n.accepted) (finished_accepted over s.ended.listener ∙ all.0.accepted) in
      let few : next.accepted ≤ last_count = omega (arith, here) in
      rest_accepted ss next all.1 few ∙ (ap (λ (k : ℕ). added k (admissions ss)) here
      ∙ added_on n.accepted (length (admitted_in s.turns)) (admissions ss) (admissions (s ∷ ss))
      refl)

  pub all_finishes : (over : List P) (ss : List (Shift J P K g)) (n : Networking P) (count : ℕ)
      → 0 < length ss → AllByRecursion IsCounted ss → count ≡ returns ss + length over
      → (all_ended (with_left_over over (map (λ (s : Shift J P K g). s.ended) ss)) n).finished
      ≡ added n.finished count
  all_finishes over [] n count some all sum = absurd (omega (arith, some))
  all_finishes over (s ∷ ss) n count some all sum =
      let next : Networking P = after_end n (having_finished over s.ended) in
      let one = length (returned_in s.turns) + length over in
      let few_here : s.ended.listener.finished ≤ last_count = omega (arith, all.0.finished) in
      let same : (all_finished over s.ended.listener).finished ≡ min one last_count =
      finished_count over s.ended.listener
      ∙ (raised_by_is (length over) s.ended.listener.finished few_here
      ∙ (let e = all.0.finished in omega (arith, e))) in
      let here : next.finished ≡ added n.finished (min one last_count) =
      ap (added n.finished) same in
      let few : next.finished ≤ last_count = omega (arith, here) in
      let whole : count ≡ one + returns ss = omega (arith, sum) in
      rest_finished ss next all.1 few ∙ (ap (λ (k : ℕ). added k (returns ss)) here
      ∙ added_on n.finished one (returns ss) count whole)
