-- That items are placed is a fact: there is one proof of it at most, where operations are plain
-- values.
use Rattle.std.proofs.Common.{ℕ, Bool, List, [], ◌∷◌, take, Some, None, Option}
use Rattle.std.specs.Coded.{Coded, coded_option, prop_coded, ×_prop, Π_prop, →_prop, Unit-prop}
use Rattle.std.specs.Coded.{le_prop}
use Rattle.std.proofs.Props.{props}
use Rattle.one_history.specs.Entries.{Behind, Follow, changes_with, others_with}
use Rattle.one_history.specs.Calls.{Placed}

pub Behind-prop : {O : Type 0} (found : Option O) (at next : ℕ) → IsProp (Behind found at next)
Behind-prop None at next = le_prop
Behind-prop (Some op) at next = le_prop

module _ {O C : Type 0} (is_change : O → Bool) (publishes : List O → ℕ → ℕ → ℕ → C → Option O) where
  pub Follow-prop : (caller : ℕ) (seen : List O) (c o : ℕ) (items : List (C × ℕ))
      → IsProp (Follow is_change publishes caller seen c o items)
  Follow-prop caller seen c o [] = Unit-prop
  Follow-prop caller seen c o (item ∷ items) =
      let found = publishes (take item.1 seen) caller c o item.0 in
      ×_prop (Π_prop (λ k. Π_prop (λ d. →_prop (Behind-prop found item.1 _))))
      (Follow-prop caller seen (changes_with is_change publishes found c)
      (others_with is_change publishes found o) items)

  pub Placed-prop : Coded O → (caller : ℕ) (seen : List O) (items : List (C × ℕ))
      → IsProp (Placed is_change publishes caller seen items)
  Placed-prop coded caller seen items =
      let code = coded_option coded in
      let follow = Follow-prop caller seen 0 0 items in
      hlevel (props, follow, prop_coded, code)
