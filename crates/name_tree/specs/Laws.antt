-- What holds of all texts and values.
use Rattle.std.specs.Prelude.{◌≡◌, ℕ, List}
use Rattle.name_tree.specs.Path.{Labels, canon_path}
use Rattle.name_tree.specs.Value.{TreeValue}
use Rattle.name_tree.specs.Grammar.{PathText, TreeText}
use Rattle.name_tree.specs.Canon.{canon, IsSound, AreByteLabels, HasLabels}

-- a text stands for at most one value
abbrev pub HasOneValue : {V : Type 0} → (List ℕ → V → Type 0) → Type 0
HasOneValue {V} Text = (text : List ℕ) (v w : V) → Text text v → Text text w → v ≡ w

-- the canonical text of a path stands for it, where its labels are labels
abbrev pub PathsReadBack : Type 0
PathsReadBack = (path : Labels) → AreByteLabels path → PathText (canon_path path) path

-- the canonical text of a sound tree stands for it, where its labels are labels
abbrev pub TreesReadBack : Type 0
TreesReadBack = (tree : TreeValue) → IsSound tree → HasLabels tree → TreeText (canon tree) tree
