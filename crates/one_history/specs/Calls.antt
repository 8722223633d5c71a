-- How the items of a caller stand in the list that it has seen, and what a call does to them.
use Rattle.std.specs.Prelude.{◌≡◌, ℕ, ◌≤◌, Bool, List, [], ◌∷◌, ◌++◌, length, take, All, Option}
use Rattle.std.specs.Prelude.{Some, slice_get}
use mathlib.Core.List.{IsPrefix}
use Rattle.one_history.specs.Entries.{entries, entry_at, changes_made, changes_with, others_made}
use Rattle.one_history.specs.Entries.{others_with, Follow}

module _ {O C : Type 0} (is_change : O → Bool) (publishes : List O → ℕ → ℕ → ℕ → C → Option O) where
  -- the items of a caller stand in order within what it has seen, and what they published stands
  -- there, each operation at its item's point
  pub record Placed (caller : ℕ) (seen : List O) (items : List (C × ℕ)) : Type 0 where
    pub within : All (λ item. item.1 ≤ length seen) items
    pub follow : Follow is_change publishes caller seen 0 0 items
    pub stands : All (λ entry. slice_get seen entry.1 ≡ Some entry.0)
        (entries is_change publishes caller seen items)

  -- One call of a caller: what it had seen begins what it has seen then; the call is one item more,
  -- at a point no earlier than what had been seen; and what it published stands there
  pub record Called (caller : ℕ) (seen seen' : List O) (items items' : List (C × ℕ)) (call : C)
      (at : ℕ) : Type 0 where
    pub before : IsPrefix seen seen'
    pub item : items' ≡ items ++ (call, at) ∷ []
    pub late : length seen ≤ at
    pub within : at ≤ length seen'
    pub stands : (op : O) → publishes (take at seen') caller
        (changes_made is_change publishes caller seen items)
        (others_made is_change publishes caller seen items) call ≡ Some op
        → slice_get seen' at ≡ Some op

  -- a caller's items stay placed while the list grows
  abbrev pub PlacedStays : Type 0
  PlacedStays =
      (caller : ℕ) (seen more : List O) (items : List (C × ℕ)) → Placed caller seen items
      → Placed caller (seen ++ more) items

  -- and each call places one more
  abbrev pub CallPlaces : Type 0
  CallPlaces =
      (caller : ℕ) (seen seen' : List O) (items items' : List (C × ℕ)) (call : C) (at : ℕ)
      → Placed caller seen items
      → Called caller seen seen' items items' call at → Placed caller seen' items'

  -- while the list grows, what items published stays, with how many changes and how many others
  -- that is
  abbrev pub CountsStay : Type 0
  CountsStay =
      (caller : ℕ) (seen more : List O) (items : List (C × ℕ))
      → All (λ item. item.1 ≤ length seen) items
      → (entries is_change publishes caller (seen ++ more) items
      ≡ entries is_change publishes caller seen items)
      × (changes_made is_change publishes caller (seen ++ more) items
      ≡ changes_made is_change publishes caller seen items)
      × (others_made is_change publishes caller (seen ++ more) items
      ≡ others_made is_change publishes caller seen items)

  -- and each call adds what it published: one change where that is a change, one other where it is
  -- another operation, and nothing where it published nothing
  abbrev pub CallCounts : Type 0
  CallCounts =
      (caller : ℕ) (seen seen' : List O) (items items' : List (C × ℕ)) (call : C) (at : ℕ)
      → All (λ item. item.1 ≤ length seen) items
      → Called caller seen seen' items items' call at →
      let changes = changes_made is_change publishes caller seen items in
      let others = others_made is_change publishes caller seen items in
      let found = publishes (take at seen') caller changes others call in
      (entries is_change publishes caller seen' items'
      ≡ entries is_change publishes caller seen items ++ entry_at found at)
      × (changes_made is_change publishes caller seen' items'
      ≡ changes_with is_change publishes found changes)
      × (others_made is_change publishes caller seen' items'
      ≡ others_with is_change publishes found others)
