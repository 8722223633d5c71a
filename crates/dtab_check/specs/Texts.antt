-- The texts of entries as the code keeps them.
use Rattle.std.specs.Prelude.{ℕ, List, map}
use Rattle.dtab_check.specs.declared.entry_text.EntryText.{EntryText}

abbrev pub texts_in : List EntryText → List (List ℕ)
texts_in texts = map (λ text. text.bytes.items) texts
