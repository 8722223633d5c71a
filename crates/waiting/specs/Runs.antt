-- The calls of connections that wait, one after another.
use Rattle.std.specs.Prelude.{◌≡◌, ℕ, ◌+◌, ◌<◌, ◌==◌, nat_lt, if◌then◌else◌, List, [], ◌∷◌, ◌++◌}
use Rattle.std.specs.Prelude.{map, Option, Some, None}
use Rattle.waiting.specs.declared.waiters.Waiter.{Waiter}
use Rattle.waiting.specs.Waiting.{Line, found_at, joined, spent, without}

-- one call: a connection was left at a tick; or it was handed back, since there was no memory; one
-- was taken by its number, if it waited; or the oldest was, if one waited
pub data Call (C : Type 0) : Type 0 where
  joins : ℕ → C → Call C
  hands_back : Call C
  takes : ℕ → Call C
  takes_oldest : Call C

-- how often a number stands in a list
abbrev pub one_at : ℕ → ℕ → ℕ
one_at x y = if y == x then 1 else 0

abbrev pub times : ℕ → List ℕ → ℕ
times x [] = 0
times x (y ∷ ys) = one_at x y + times x ys

-- each number below this one stands in it once
abbrev pub once_below : ℕ → ℕ → ℕ
once_below x next = if nat_lt x next then 1 else 0

module _ {C : Type 0} where
  abbrev pub numbers : List (ℕ × Waiter C) → List ℕ
  numbers ws = map (λ w. w.0) ws

  -- the oldest one, and the others
  abbrev pub oldest_of : List (ℕ × Waiter C) → List (ℕ × Waiter C)
  oldest_of [] = []
  oldest_of (w ∷ ws) = w ∷ []

  abbrev pub others_of : List (ℕ × Waiter C) → List (ℕ × Waiter C)
  others_of [] = []
  others_of (w ∷ ws) = ws

  abbrev pub number_of : ℕ → Option C → List ℕ
  number_of number None = []
  number_of number (Some connection) = number ∷ []

  -- who waits behind a call
  abbrev pub line_after : Line C → Call C → Line C
  line_after l (joins since connection) = joined l since connection
  line_after l hands_back = spent l
  line_after l (takes number) = record { waiting = without number l.waiting; next = l.next }
  line_after l takes_oldest = record { waiting = others_of l.waiting; next = l.next }

  -- the numbers of those that it handed out
  abbrev pub out_of : Line C → Call C → List ℕ
  out_of l (joins since connection) = []
  out_of l hands_back = l.next ∷ []
  out_of l (takes number) = number_of number (found_at number l.waiting)
  out_of l takes_oldest = numbers (oldest_of l.waiting)

  -- the same of calls one after another
  abbrev pub line_behind : Line C → List (Call C) → Line C
  line_behind l [] = l
  line_behind l (c ∷ cs) = line_behind (line_after l c) cs

  abbrev pub all_out : Line C → List (Call C) → List ℕ
  all_out l [] = []
  all_out l (c ∷ cs) = out_of l c ++ all_out (line_after l c) cs

  abbrev pub nobody : Line C
  nobody = record { waiting = []; next = 0 }

-- over any calls each number that was given was handed out once, or its connection waits; and no
-- other number was handed out, or waits
abbrev pub EachIsTakenOnce : (C : Type 0) → Type 0
EachIsTakenOnce C = (cs : List (Call C)) (x : ℕ)
    → times x (all_out nobody cs) + times x (numbers (line_behind nobody cs).waiting)
    ≡ once_below x (line_behind nobody cs).next

-- a number that was handed out finds nothing
abbrev pub StaleFindsNothing : (C : Type 0) → Type 0
StaleFindsNothing C = (cs : List (Call C)) (x : ℕ) → 0 < times x (all_out nobody cs)
    → found_at x (line_behind nobody cs).waiting ≡ None
