-- The list of published operations, and its beginnings.
use Rattle.std.specs.Prelude.{ℕ, ◌≡◌, ◌==◌, nat_lt, if◌then◌else◌, true, List, [], ◌∷◌, ◌++◌}
use Rattle.std.specs.Prelude.{length, MatchBool}
use Rattle.logbook.specs.Pages.{Cell, Step, View, Book, Named}

-- the first word is the length of the list. The second is not used
abbrev pub IsKept : {O : Type 0} → List Cell → List O → Type 0
IsKept cells log = cells ≡ (length log, true) ∷ (0, true) ∷ []

abbrev pub head_of : Book → Named
head_of b = record { tracked = true; key = 0; book = b }

-- where the list was as long as was said, the operation was added to what had been seen, which was
-- all of it
abbrev pub Adds : {O A : Type 0} → Step O → View O A → ℕ → View O A → Type 0
Adds s v found w = MatchBool (found == s.old) (w.0 ≡ v.0 ++ s.ask ∷ []) (Unit {0})

-- the longer of two lists
abbrev pub longer : {O : Type 0} → List O → List O → List O
longer xs ys = if nat_lt (length xs) (length ys) then ys else xs
