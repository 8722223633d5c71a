-- Blanks, and digits, at an end.
use Rattle.std.proofs.Common.{◌≡◌, ℕ, true, List, [], ◌∷◌, ◌++◌}
use Rattle.name_tree.specs.Grammar.{is_blank, is_digit, AreBlanks, no_blank, blank, AreDigits}
use Rattle.name_tree.specs.Grammar.{no_digit, digit}

pub blanks_snoc : {a : List ℕ} (b : ℕ) → AreBlanks a → is_blank b ≡ true → AreBlanks (a ++ b ∷ [])
blanks_snoc b no_blank h = blank h no_blank
blanks_snoc b (blank k r) h = blank k (blanks_snoc b r h)

pub digits_snoc : {ds : List ℕ} (d : ℕ) → AreDigits ds → is_digit d ≡ true
    → AreDigits (ds ++ d ∷ [])
digits_snoc d no_digit h = digit h no_digit
digits_snoc d (digit k r) h = digit k (digits_snoc d r h)
