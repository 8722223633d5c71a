-- The table of the empty text.
use Rattle.std.proofs.Common.{◌≡◌, ℕ, List, [], true, length, Some, refl, sym, ap, ◌∙◌, arith}
use Rattle.std.specs.Prelude.{◌==◌}
use Rattle.std.proofs.lemmas.Bool.Decides.{nat_tests}
use Rattle.std.proofs.lemmas.List.{nil_from_length}
use Rattle.dtab_table.specs.Rules.{Rule}
use Rattle.dtab_table.specs.Computed.{table_of}

pub nothing : table_of [] ≡ Some []
unfolding table_of
nothing = refl

pub empty_table : (text : List ℕ) (rules : List Rule) → true ≡ (length text == 0) → rules ≡ []
    → table_of text ≡ Some rules
empty_table text rules empty rules_are =
    let none : length text ≡ 0 = grind (arith, nat_tests, empty) in
    ap table_of (nil_from_length text none) ∙ (nothing ∙ ap Some (sym rules_are))
