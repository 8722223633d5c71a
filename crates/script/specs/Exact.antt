-- That lines are read as the grammar has them.
use Rattle.std.specs.Prelude.{◌≡◌, ◌≢◌, ◌↔◌, ℕ, List}
use Rattle.script.specs.Line.{LineValue, bad, line_value}
use Rattle.script.specs.Grammar.{SpellsLine}

-- a line says what the grammar has, and nothing else. So a line that the grammar lacks is bad
abbrev pub ComputesLines : Type 0
ComputesLines = (line : List ℕ) (said : LineValue) → said ≢ bad
    → (line_value line ≡ said) ↔ SpellsLine line said
