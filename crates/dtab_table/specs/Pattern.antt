-- The labels of a prefix.
use Rattle.std.specs.Prelude.{◌<◌, List, [], ◌∷◌, length, Option, Some, None}
use Rattle.name_tree.specs.Path.{Label}
use Rattle.dtab_table.specs.declared.prefix.PrefixLabel.{PrefixLabel}
use Rattle.dtab_table.specs.declared.prefix.PrefixLabel.TheVariants.{Star, Label as Named}

-- a label of a prefix: None is `*`, which stands for every label
abbrev pub Pattern : Type 0
Pattern = Option Label

-- what a label of the code says
abbrev pub pattern_of : PrefixLabel → Pattern
pattern_of Star = None
pattern_of (Named bytes) = Some bytes.items

-- `*`, or a label with a byte
abbrev pub IsFilled : Pattern → Type 0
IsFilled None = Unit {0}
IsFilled (Some l) = 0 < length l

abbrev pub AreFilled : List Pattern → Type 0
AreFilled [] = Unit {0}
AreFilled (p ∷ ps) = IsFilled p × AreFilled ps
