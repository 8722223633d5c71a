-- The values of texts within the limits, computed byte by byte. A law says that they are those of
-- the grammar.
use Rattle.std.specs.Prelude.{◌≡◌, ◌↔◌, ℕ, Bool, true, false, ◌&&◌, ◌==◌, nat_le, if◌then◌else◌}
use Rattle.std.specs.Prelude.{List, [], ◌∷◌, length, Option, Some, None}
use Rattle.name_tree.specs.Path.{Labels}
use Rattle.name_tree.specs.Value.{TreeValue}
use Rattle.name_tree.specs.Faults.{most_bytes, most_open, open_after, IsValue}
use Rattle.name_tree.specs.Recogniser.{value_from}
use Rattle.name_tree.specs.PathReading.{before as before_path, next_path, end_path}
use Rattle.name_tree.specs.TreeReading.{before, start, next_state, ended_state}

-- no parenthesis is opened inside the most that may be open, where so many are open before these
-- bytes
abbrev pub is_flat : ℕ → List ℕ → Bool
is_flat n [] = true
is_flat n (b ∷ bs) = if b == 40 && nat_le most_open n then false else is_flat (open_after n b) bs

-- the value of a text that keeps the limits
abbrev pub in_limits : {V : Type 0} → (List ℕ → Option V) → List ℕ → Option V
in_limits value text =
    if nat_le (length text) most_bytes && is_flat 0 text then value text else None

-- the path that a text stands for
unfoldable pub path_of : List ℕ → Option Labels
path_of text = in_limits (value_from next_path end_path before_path) text

-- the tree that a text stands for
unfoldable pub tree_of : List ℕ → Option TreeValue
tree_of text = in_limits (value_from next_state ended_state (before [], start)) text

-- a function gives the values of a grammar's texts within the limits, and nothing else
abbrev pub Computes : {V : Type 0} → (List ℕ → Option V) → (List ℕ → V → Type 0) → Type 0
Computes {V} value Text = (text : List ℕ) (v : V) → (value text ≡ Some v) ↔ IsValue Text text v
