-- What is shown of changes is shown of the other operations too: the two change places, with their
-- counts.
use Rattle.std.proofs.Common.{◌≡◌, ℕ, ◌+◌, Bool, true, false, List, [], ◌∷◌, ◌++◌, take, Some, None}
use Rattle.std.proofs.Common.{Option, refl, ap, sym, ◌∙◌, subst}
use Rattle.std.specs.Prelude.{All, not, slice_get, if◌then◌else◌}
use Rattle.one_history.specs.Calls.{Placed}
use Rattle.one_history.specs.Entries.{entry_at, changes_with, others_with, entries_from}
use Rattle.one_history.specs.Entries.{changes_after, others_after, Follow}
use Rattle.one_history.specs.Order.{OfCaller}

module _ {O C : Type 0} (is_change : O → Bool) (publishes : List O → ℕ → ℕ → ℕ → C → Option O) where
  abbrev pub is_other : O → Bool
  is_other op = not (is_change op)

  abbrev pub swapped : List O → ℕ → ℕ → ℕ → C → Option O
  swapped before caller others changes call = publishes before caller changes others call

  changes_swap : (found : Option O) (n : ℕ) → changes_with is_other swapped found n
      ≡ others_with is_change publishes found n
  changes_swap None n = refl
  changes_swap (Some op) n = by_kind (is_change op) where
    by_kind : (t : Bool) → (if not t then n + 1 else n) ≡ (if t then n else n + 1)
    by_kind true = refl
    by_kind false = refl

  others_swap : (found : Option O) (n : ℕ) → others_with is_other swapped found n
      ≡ changes_with is_change publishes found n
  others_swap None n = refl
  others_swap (Some op) n = by_kind (is_change op) where
    by_kind : (t : Bool) → (if not t then n else n + 1) ≡ (if t then n + 1 else n)
    by_kind true = refl
    by_kind false = refl

  pub entries_swap : (caller : ℕ) (seen : List O) (c o : ℕ) (items : List (C × ℕ))
      → entries_from is_other swapped caller seen o c items
      ≡ entries_from is_change publishes caller seen c o items
  entries_swap caller seen c o [] = refl
  entries_swap caller seen c o (item ∷ items) =
      let found = publishes (take item.1 seen) caller c o item.0 in
      let c' = changes_with is_change publishes found c in
      let o' = others_with is_change publishes found o in
      ap (λ (l : List (O × ℕ)). entry_at found item.1 ++ l)
      (ap (λ (n : ℕ). entries_from is_other swapped caller seen n
      (others_with is_other swapped found c) items) (changes_swap found o)
      ∙ (ap (λ (n : ℕ). entries_from is_other swapped caller seen o' n items) (others_swap found c)
      ∙ entries_swap caller seen c' o' items))

  pub made_swap : (caller : ℕ) (seen : List O) (c o : ℕ) (items : List (C × ℕ))
      → changes_after is_other swapped caller seen o c items
      ≡ others_after is_change publishes caller seen c o items
  made_swap caller seen c o [] = refl
  made_swap caller seen c o (item ∷ items) =
      let found = publishes (take item.1 seen) caller c o item.0 in
      let c' = changes_with is_change publishes found c in
      let o' = others_with is_change publishes found o in
      ap (λ (n : ℕ). changes_after is_other swapped caller seen n
      (others_with is_other swapped found c) items) (changes_swap found o)
      ∙ (ap (λ (n : ℕ). changes_after is_other swapped caller seen o' n items) (others_swap found c)
      ∙ made_swap caller seen c' o' items)

  follow_swap : (caller : ℕ) (seen : List O) (c o : ℕ) (items : List (C × ℕ))
      → Follow is_change publishes caller seen c o items
      → Follow is_other swapped caller seen o c items
  follow_swap caller seen c o [] follow = tt
  follow_swap caller seen c o (item ∷ items) follow =
      let found = publishes (take item.1 seen) caller c o item.0 in
      let c' = changes_with is_change publishes found c in
      let o' = others_with is_change publishes found o in (
        follow.0,
        subst (λ (n : ℕ). Follow is_other swapped caller seen n
            (others_with is_other swapped found c) items) (sym (changes_swap found o))
            (subst (λ (n : ℕ). Follow is_other swapped caller seen o' n items)
            (sym (others_swap found c))
            (follow_swap caller seen c' o' items follow.1)),
      )

  pub placed_swap : (caller : ℕ) (seen : List O) (items : List (C × ℕ))
      → Placed is_change publishes caller seen items → Placed is_other swapped caller seen items
  placed_swap caller seen items placed = record {
    within = placed.within;
    follow = follow_swap caller seen 0 0 items placed.follow;
    stands = subst (λ (es : List (O × ℕ)). All (λ e. slice_get seen e.1 ≡ Some e.0) es)
        (sym (entries_swap caller seen 0 0 items)) placed.stands;
  }

  pub of_caller_swap : (caller_of : O → ℕ) (caller : ℕ)
      → OfCaller is_change publishes caller_of caller → OfCaller is_other swapped caller_of caller
  of_caller_swap caller_of caller of before others changes call op is =
      of before changes others call op is
