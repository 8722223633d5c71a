-- Connections that wait, and what calls make of them.
use Rattle.std.specs.Prelude.{◌≡◌, ℕ, ◌+◌, ◌<◌, ◌≤◌, ◌==◌, if◌then◌else◌, Bool, false}
use Rattle.std.specs.Prelude.{MatchBool, List, [], ◌∷◌, ◌++◌, Option, Some, None}
use Rattle.waiting.specs.declared.waiters.Waiter.{Waiter}

-- those who wait, each with its number, the oldest first; and the number that the next one gets
pub record Line (C : Type 0) : Type 0 where
  pub waiting : List (ℕ × Waiter C)
  pub next : ℕ

module _ {C : Type 0} where
  -- each has a number below this one
  abbrev pub AreBelow : ℕ → List (ℕ × Waiter C) → Type 0
  AreBelow next [] = Unit {0}
  AreBelow next (w ∷ ws) = (w.0 < next) × AreBelow next ws

  -- the next number was given
  abbrev pub spent : Line C → Line C
  spent l = record { waiting = l.waiting; next = l.next + 1 }

  -- one more waits, behind all others, under the next number
  abbrev pub joined : Line C → ℕ → C → Line C
  joined l since connection = record {
    waiting = l.waiting ++ (l.next, record { since = since; connection = connection }) ∷ [];
    next = l.next + 1;
  }

  -- the connection with a number, if it waits
  abbrev pub found_at : ℕ → List (ℕ × Waiter C) → Option C
  found_at number [] = None
  found_at number (w ∷ ws) = if w.0 == number then Some w.1.connection else found_at number ws

  -- those who wait but for the one with a number
  abbrev pub without : ℕ → List (ℕ × Waiter C) → List (ℕ × Waiter C)
  without number [] = []
  without number (w ∷ ws) = if w.0 == number then ws else w ∷ without number ws

  -- the oldest of these is this connection, and behind it are the others
  abbrev pub IsOldest : C → List (ℕ × Waiter C) → List (ℕ × Waiter C) → Type 0
  IsOldest connection others [] = ⊥
  IsOldest connection others (w ∷ ws) = (connection ≡ w.1.connection) × (others ≡ ws)

  -- the oldest one was taken out
  pub record TakesOldest (old new : Line C) (connection : C) : Type 0 where
    pub oldest : IsOldest connection new.waiting old.waiting
    pub next : new.next ≡ old.next

  -- the oldest one was left at this tick or before
  abbrev pub HasOlder : ℕ → List (ℕ × Waiter C) → Type 0
  HasOlder limit [] = ⊥
  HasOlder limit (w ∷ ws) = w.1.since ≤ limit

  -- the oldest one was taken out, which was left at this tick or before
  pub record TakesOlder (limit : ℕ) (old new : Line C) (connection : C) : Type 0 where
    pub takes : TakesOldest old new connection
    pub older : HasOlder limit old.waiting

  -- the oldest one, if there is one, was left behind this tick
  abbrev pub IsYounger : ℕ → List (ℕ × Waiter C) → Type 0
  IsYounger limit [] = Unit {0}
  IsYounger limit (w ∷ ws) = limit < w.1.since

  -- the answer to whether the oldest one was left at this tick or before
  abbrev pub IsOlder : ℕ → List (ℕ × Waiter C) → Bool → Type 0
  IsOlder limit [] older = older ≡ false
  IsOlder limit (w ∷ ws) older = MatchBool older (w.1.since ≤ limit) (limit < w.1.since)
