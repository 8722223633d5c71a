-- Whether a delegation is kept, and what is answered.
use Rattle.std.proofs.Common.{◌≡◌, Bool, true, false, List, ◌++◌, refl, sym, ◌∙◌, subst}
use Rattle.std.specs.Prelude.{not, ◌||◌, if◌then◌else◌}
use mathlib.Core.List.{IsPrefix}
use Rattle.machine.specs.Values.{SettingsValue}
use Rattle.bind_cache.specs.Kept.{Kept}
use Rattle.router_log.specs.Call.{is_kept, is_large, is_late, is_had, are_spent}
use Rattle.router_log.specs.Operation.{Operation, kept, place_of}
use Rattle.router_log.specs.Value.{value_of, opening_value, Fits, AllFit}
use Rattle.router_log.proofs.Places.{place_is, fit_front}
use Rattle.router_log.proofs.Publishing.{kept_fits}
use Rattle.router.specs.declared.answer.Remembered.TheVariants as remembered
use Rattle.router.specs.Changing.{remembered_as}
use Rattle.router.specs.Picked.{IsWorkedOut}

module _ (settings : SettingsValue) (ops : List Operation) (k : Kept) where
  answer_by : (a b c d : Bool) → not (a || (b || (c || d))) ≡ true
      → (if a then remembered.Large k.cost k.bytes else if b then remembered.Late k.place
      (place_of ops) else if c then remembered.Had else if d then remembered.KeptSpent else
      remembered.Kept) ≡ remembered.Kept
  answer_by true b c d is = absurd cc
  answer_by false true c d is = absurd cc
  answer_by false false true d is = absurd cc
  answer_by false false false true is = absurd cc
  answer_by false false false false is = refl

  pub kept_answer : is_kept settings ops k ≡ true → remembered_as settings ops k ≡ remembered.Kept
  kept_answer is = answer_by (is_large k) (is_late ops k) (is_had settings ops k) (are_spent ops) is

  -- a delegation that was worked out in a state that was seen fits, where it is kept
  pub remembered_fits : (front : List Operation) → IsPrefix front ops
      → AllFit settings opening_value ops → IsWorkedOut settings (value_of settings front).state k
      → is_kept settings ops k ≡ true → Fits settings (value_of settings ops) (kept 0 0 k)
  remembered_fits front p fit worked is =
      let whole : front ++ p.0 ≡ ops = p.1 in
      let place = worked.place ∙ place_is settings front
      (fit_front settings opening_value front p.0
      (subst (λ (l : List Operation). AllFit settings opening_value l) (sym whole) fit)) in
      subst (λ (l : List Operation). Fits settings (value_of settings l) (kept 0 0 k)) whole
      (kept_fits settings front p.0 k place worked.right
      (subst (λ (l : List Operation). is_kept settings l k ≡ true) (sym whole) is) 0 0)
