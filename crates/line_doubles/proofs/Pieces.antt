-- A piece that is given from the front of what is left.
use Rattle.std.proofs.Common.{◌≡◌, ℕ, ◌<◌, ◌≤◌, List, [], ◌++◌, length, take, drop, min, sym, ap}
use Rattle.std.proofs.Common.{◌∙◌, arith}
use Rattle.std.proofs.lemmas.List.{take-append-drop, drop_all}

-- what was left is the piece and what is left behind it, and where the piece has no byte though
-- there was room, nothing is left
pub given_from : (into left behind : List ℕ) (most n : ℕ)
    → n ≡ min (min (length into) most) (length left) → 1 ≤ most → take n into ≡ take n left
    → behind ≡ drop n left
    → (left ≡ take n into ++ behind) × (n ≡ 0 → 0 < length into → behind ≡ [])
given_from into left behind most n is some piece rest = (
  sym (take-append-drop n left)
      ∙ (ap (λ (xs : List ℕ). xs ++ drop n left) (sym piece)
      ∙ ap (λ (xs : List ℕ). take n into ++ xs) (sym rest)),
  λ none room. rest ∙ drop_all n left (omega (arith, is, none)),
)
