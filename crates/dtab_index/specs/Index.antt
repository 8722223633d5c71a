-- What was put into an index, and which of it match a path.
use Rattle.std.specs.Prelude.{ℕ, ◌<◌, Bool, true, false, ◌&&◌, ◌||◌, nat_le, nat_lt, if◌then◌else◌}
use Rattle.std.specs.Prelude.{List, [], ◌∷◌, ◌++◌, Option, Some, None}
use Rattle.std.specs.Str.{bytes_eq}

-- a label of a path is a list of bytes
abbrev pub Label : Type 0
Label = List ℕ

-- a label of a prefix: None is `*`, which stands for every label
abbrev pub Pattern : Type 0
Pattern = Option Label

-- a prefix and its position
abbrev pub Placed : Type 0
Placed = List Pattern × ℕ

-- whether a label of a prefix stands for a label of a path
abbrev pub fits : Pattern → Label → Bool
fits None l = true
fits (Some m) l = bytes_eq m l

-- whether a path begins with a prefix: it has a label for each of the prefix, the same unless that
-- is `*`
abbrev pub matches : List Pattern → List Label → Bool
matches [] path = true
matches (p ∷ ps) [] = false
matches (p ∷ ps) (l ∷ ls) = fits p l && matches ps ls

-- the positions of the prefixes that match a path, the last added first
abbrev pub matching : List Placed → List Label → List ℕ
matching [] path = []
matching (p ∷ ps) path = matching ps path ++ (if matches p.0 path then p.1 ∷ [] else [])

-- every position is below a number
abbrev pub AreBelow : ℕ → List Placed → Type 0
AreBelow most [] = Unit {0}
AreBelow most (p ∷ ps) = (p.1 < most) × AreBelow most ps

-- whether a prefix is at one of some positions, from the first of them to before the last, and
-- matches a path
abbrev pub matches_there : ℕ → ℕ → List Label → Placed → Bool
matches_there from to path p = (nat_le from p.1 && nat_lt p.1 to) && matches p.0 path

-- whether one of the prefixes at these positions matches a path
abbrev pub some_matches_there : ℕ → ℕ → List Placed → List Label → Bool
some_matches_there from to [] path = false
some_matches_there from to (p ∷ ps) path =
    matches_there from to path p || some_matches_there from to ps path
