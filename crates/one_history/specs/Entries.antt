-- What a caller's calls published, and where that stands in the list of all that was published.
use Rattle.std.specs.Prelude.{ℕ, ◌+◌, ◌<◌, ◌≤◌, Bool, if◌then◌else◌, List, [], ◌∷◌, ◌++◌, take, All}
use Rattle.std.specs.Prelude.{⊤, Option, Some, None}

-- what stands at a point, if something does
abbrev pub entry_at : {O : Type 0} → Option O → ℕ → List (O × ℕ)
entry_at None at = []
entry_at (Some op) at = (op, at) ∷ []

-- what comes behind a call that published nothing may stand at the same point; behind one that did,
-- it stands at a greater one
abbrev pub Behind : {O : Type 0} → Option O → ℕ → ℕ → Type 0
Behind None at next = at ≤ next
Behind (Some op) at next = at < next

module _ {O C : Type 0} (is_change : O → Bool) (publishes : List O → ℕ → ℕ → ℕ → C → Option O) where
  -- how many changes and how many others a caller has published, with what a call of its published
  abbrev pub changes_with : Option O → ℕ → ℕ
  changes_with None n = n
  changes_with (Some op) n = if is_change op then n + 1 else n

  abbrev pub others_with : Option O → ℕ → ℕ
  others_with None n = n
  others_with (Some op) n = if is_change op then n else n + 1

  -- What a call publishes follows from the operations that stood before it, its caller, and how
  -- many changes and others that caller had published. So it does for a caller's items, each a call
  -- with its point: the operations that they published, in order, each with its point
  abbrev pub entries_from : ℕ → List O → ℕ → ℕ → List (C × ℕ) → List (O × ℕ)
  entries_from caller seen changes others [] = []
  entries_from caller seen changes others (item ∷ items) =
      let found = publishes (take item.1 seen) caller changes others item.0 in
      entry_at found item.1 ++ entries_from caller seen (changes_with found changes)
      (others_with found others) items

  -- how many changes, and how many others, there are with those of the items
  abbrev pub changes_after : ℕ → List O → ℕ → ℕ → List (C × ℕ) → ℕ
  changes_after caller seen changes others [] = changes
  changes_after caller seen changes others (item ∷ items) =
      let found = publishes (take item.1 seen) caller changes others item.0 in
      changes_after caller seen (changes_with found changes) (others_with found others) items

  abbrev pub others_after : ℕ → List O → ℕ → ℕ → List (C × ℕ) → ℕ
  others_after caller seen changes others [] = others
  others_after caller seen changes others (item ∷ items) =
      let found = publishes (take item.1 seen) caller changes others item.0 in
      others_after caller seen (changes_with found changes) (others_with found others) items

  -- points never fall, and rise behind an item that published
  abbrev pub Follow : ℕ → List O → ℕ → ℕ → List (C × ℕ) → Type 0
  Follow caller seen changes others [] = ⊤
  Follow caller seen changes others (item ∷ items) =
      let found = publishes (take item.1 seen) caller changes others item.0 in
      All (λ next. Behind found item.1 next.1) items
      × Follow caller seen (changes_with found changes) (others_with found others) items

  -- what the items of a caller published, each with its point
  abbrev pub entries : ℕ → List O → List (C × ℕ) → List (O × ℕ)
  entries caller seen items = entries_from caller seen 0 0 items

  -- how many changes they published, and how many others
  abbrev pub changes_made : ℕ → List O → List (C × ℕ) → ℕ
  changes_made caller seen items = changes_after caller seen 0 0 items

  abbrev pub others_made : ℕ → List O → List (C × ℕ) → ℕ
  others_made caller seen items = others_after caller seen 0 0 items
