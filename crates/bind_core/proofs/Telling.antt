-- What is told of a delegation.
use Rattle.std.proofs.Common.{◌≡◌, ℕ, List, [], ◌∷◌, map, refl, ap, ◌∙◌}
use Rattle.name_tree.specs.Path.{Labels}
use Rattle.dtab_table.specs.Rules.{Rule}
use Rattle.bind_core.specs.declared.outcome.Delegated.{Delegated}
use Rattle.bind_core.specs.declared.outcome.Wanted.{Wanted}
use Rattle.bind_core.specs.declared.outcome.Wanted.TheVariants as wanted
use Rattle.bind_core.specs.declared.work.Work.{Work}
use Rattle.bind_core.specs.Delegation.{Names, Visit, told_in, visits_within, most_asked}
use Rattle.bind_core.specs.Outcome.{traced, most_for, paths_for, items_for, asked_told, trace_told}
use Rattle.bind_core.specs.Outcome.{IsDelegated}
use Rattle.bind_core.specs.Stack.{IsAnswer}

paths_traced : (vs : List Visit) → map (λ i. i.path) (map traced vs) ≡ map (λ v. v.path) vs
paths_traced [] = refl
paths_traced (v ∷ vs) = ap (λ (ps : List Labels). v.path ∷ ps) (paths_traced vs)

asked_is : (rules : List Rule) (names : Names) (path : Labels) (w : Wanted)
    → paths_for w (map traced (visits_within (most_for w) (told_in rules names path)))
    ≡ asked_told w rules names path
asked_is rules names path wanted.Neither = refl
asked_is rules names path wanted.Asked =
    paths_traced (visits_within most_asked (told_in rules names path))
asked_is rules names path wanted.Trace = refl

trace_is : (rules : List Rule) (names : Names) (path : Labels) (w : Wanted)
    → items_for w (map traced (visits_within (most_for w) (told_in rules names path)))
    ≡ trace_told w rules names path
trace_is rules names path wanted.Neither = refl
trace_is rules names path wanted.Asked = refl
trace_is rules names path wanted.Trace = refl

pub delegated : (rules : List Rule) (names : Names) (path : Labels) (w : Wanted) (most : ℕ)
    (work : Work) (d : Delegated) → most ≡ most_for w
    → IsAnswer most (told_in rules names path) work d.outcome
    → d.cost ≡ work.count → d.asked ≡ paths_for w work.visits.items.items
    → d.trace ≡ items_for w work.visits.items.items → IsDelegated rules names path w d
delegated rules names path w most work d most_is answer cost_is asked_are trace_are =
    let items : work.visits.items.items
    ≡ map traced (visits_within (most_for w) (told_in rules names path)) =
    rw (← most_is) answer.items in
    record {
      outcome = answer.outcome;
      cost = cost_is ∙ answer.count;
      asked = asked_are ∙ (ap (paths_for w) items ∙ asked_is rules names path w);
      trace = trace_are ∙ (ap (items_for w) items ∙ trace_is rules names path w);
    }
