-- Whose changes a list of published operations has.
use Rattle.std.specs.Prelude.{◌≡◌, ◌≢◌, ℕ, ◌+◌, ◌≤◌, ◌==◌, ◌&&◌, Bool, List, [], ◌∷◌, ◌++◌, map}
use Rattle.std.specs.Prelude.{filter, length, All, Contains, ⊤, Option, Some, false}
use Rattle.std.specs.Option.{option_to_list}
use Rattle.one_history.specs.Entries.{entries, changes_made, others_made}
use Rattle.one_history.specs.Calls.{Placed}

-- no two of these numbers are one
abbrev pub Distinct : List ℕ → Type 0
Distinct [] = ⊤
Distinct (n ∷ ns) = All (λ m. m ≢ n) ns × Distinct ns

module _ {O C : Type 0} (is_change : O → Bool) (publishes : List O → ℕ → ℕ → ℕ → C → Option O)
    (caller_of : O → ℕ) where
  -- the changes of a caller that a list has
  abbrev pub own_changes : ℕ → List O → List O
  own_changes caller ops = filter (λ op. is_change op && (caller_of op == caller)) ops

  -- besides, the list has no other change of this caller
  pub record InOrder (caller : ℕ) (seen : List O) (items : List (C × ℕ)) : Type 0 where
    pub placed : Placed is_change publishes caller seen items
    pub own : own_changes caller seen
        ≡ filter is_change (map (λ entry. entry.0) (entries is_change publishes caller seen items))

  -- callers, each by its number, with its items
  abbrev pub Callers : Type 0
  Callers = List (ℕ × List (C × ℕ))

  -- how many changes all of them made
  abbrev pub changes_of_all : List O → Callers → ℕ
  changes_of_all seen [] = 0
  changes_of_all seen (p ∷ ps) =
      changes_made is_change publishes p.0 seen p.1 + changes_of_all seen ps

  -- what a caller's calls publish is of that caller
  abbrev pub OfCaller : ℕ → Type 0
  OfCaller caller =
      (before : List O) (changes others : ℕ) (call : C) (op : O)
      → publishes before caller changes others call ≡ Some op → caller_of op ≡ caller

  -- callers of which no two are one, whose items are placed in a list, made no more changes than
  -- the list has. Where they made as many, those of each that the list has are just those that its
  -- items published, in their order
  abbrev pub CountShowsOrder : Type 0
  CountShowsOrder =
      (ops : List O) (callers : Callers) → Distinct (map (λ p. p.0) callers)
      → All (λ p. OfCaller p.0) callers
      → All (λ p. Placed is_change publishes p.0 ops p.1) callers
      → length (filter is_change ops) ≤ changes_of_all ops callers
      → All (λ p. InOrder p.0 ops p.1) callers
      × (length (filter is_change ops) ≡ changes_of_all ops callers)

  -- and then the list has no change but theirs
  abbrev pub CountShowsCallers : Type 0
  CountShowsCallers =
      (ops : List O) (callers : Callers) → Distinct (map (λ p. p.0) callers)
      → All (λ p. OfCaller p.0) callers
      → All (λ p. Placed is_change publishes p.0 ops p.1) callers
      → length (filter is_change ops) ≤ changes_of_all ops callers
      → All (λ op. Contains (map (λ p. p.0) callers) (caller_of op)) (filter is_change ops)

  -- items stay in order while others publish
  abbrev pub OthersLeaveOrder : Type 0
  OthersLeaveOrder =
      (caller : ℕ) (seen : List O) (items : List (C × ℕ)) (op : O) → InOrder caller seen items
      → (is_change op && (caller_of op == caller)) ≡ false
      → InOrder caller (seen ++ op ∷ []) items

  -- a call behind all that was published, with what it publishes next, keeps them in order
  abbrev pub CallKeepsOrder : Type 0
  CallKeepsOrder =
      (caller : ℕ) (seen : List O) (items : List (C × ℕ)) (call : C) → OfCaller caller
      → InOrder caller seen items
      → InOrder caller (seen ++ option_to_list
      (publishes seen caller (changes_made is_change publishes caller seen items)
      (others_made is_change publishes caller seen items) call)) (items ++ (call, length seen) ∷ [])
