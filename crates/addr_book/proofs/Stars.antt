-- No `*` stands in a gap.
use Rattle.std.proofs.Common.{◌≡◌, ℕ, List, Bool, true, false, arith}
use Rattle.std.specs.Prelude.{◌==◌}
use Rattle.std.proofs.lemmas.Bool.Decides.{nat_tests}
use Rattle.text_parts.specs.Words.{is_gap, AreGaps, no_gap, gap}
use Rattle.text_parts.proofs.GapWords.{Lacks, lacks_none, lacks}

abbrev pub is_star : ℕ → Bool
is_star b = b == 42

pub gap_no_star : (b : ℕ) → is_gap b ≡ true → is_star b ≡ false
gap_no_star b h = grind (arith, nat_tests)

pub gaps_lack_stars : {s : List ℕ} → AreGaps s → Lacks is_star s
gaps_lack_stars no_gap = lacks_none
gaps_lack_stars (gap {b = b} h r) = lacks (gap_no_star b h) (gaps_lack_stars r)
