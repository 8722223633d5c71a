-- Prefixes that match a path, and positions below a number.
use Rattle.std.proofs.Common.{◌≡◌, ℕ, ◌+◌, ◌≤◌, List, [], ◌∷◌, ◌++◌, true, length, arith}
use Rattle.std.proofs.lemmas.Bool.{and_parts}
use Rattle.dtab_index.specs.Index.{Label, Pattern, Placed, fits, matches, AreBelow}

-- a path has a label for each of a prefix that matches it
pub long_enough : (ps : List Pattern) (path : List Label) → matches ps path ≡ true
    → length ps ≤ length path
long_enough [] path is = omega arith
long_enough (p ∷ ps) [] is = cc
long_enough (p ∷ ps) (l ∷ ls) is = omega
    (arith, long_enough ps ls ((and_parts (fits p l) (matches ps ls) is).1))

-- positions that are below a number are below the next, and so is that number
pub below_more : (most : ℕ) (ps : List Placed) (prefix : List Pattern) → AreBelow most ps
    → AreBelow (most + 1) (ps ++ (prefix, most) ∷ [])
below_more most [] prefix below = (omega arith, tt)
below_more most (p ∷ ps) prefix below = (omega (arith, below.0), below_more most ps prefix below.1)
