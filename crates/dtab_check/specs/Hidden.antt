-- The entries of a table that are never asked, since a later entry covers them and is never
-- negative.
use Rattle.std.specs.Prelude.{ℕ, ◌+◌, Bool, true, false, ◌&&◌, ◌||◌, ◌==◌, if◌then◌else◌}
use Rattle.std.specs.Prelude.{List, [], ◌∷◌, ◌++◌, Option, Some, None}
use Rattle.std.specs.Option.{option_or}
use Rattle.std.specs.Str.{bytes_eq}
use Rattle.name_tree.specs.Value.{TreeValue}
use Rattle.dtab_table.specs.Pattern.{Pattern}
use Rattle.dtab_table.specs.Rules.{Rule}
use Rattle.dtab_check.specs.declared.hidden_list.Hidden.{Hidden}
use Rattle.dtab_check.specs.Sure.{is_sure}

-- whether a label of a prefix stands for all that another stands for: `*` does, and a label does
-- for itself
abbrev pub pattern_covers : Pattern → Pattern → Bool
pattern_covers None q = true
pattern_covers (Some m) None = false
pattern_covers (Some m) (Some l) = bytes_eq m l

-- whether a prefix covers another: it has no more labels, and each stands for all that the label of
-- the other at its place stands for
abbrev pub covers : List Pattern → List Pattern → Bool
covers [] qs = true
covers (p ∷ ps) [] = false
covers (p ∷ ps) (q ∷ qs) = pattern_covers p q && covers ps qs

-- an entry at a position, where it has a cover behind it at another
abbrev pub hidden_by : ℕ → Option ℕ → List Hidden
hidden_by at None = []
hidden_by at (Some by) = record { entry = at; by = by } ∷ []

module _ (sure : TreeValue → Bool) where
  -- the position of the last of some entries that covers a prefix and has a sure tree, where the
  -- first of them has this position
  abbrev pub last_cover : ℕ → List Rule → List Pattern → Option ℕ
  last_cover at [] prefix = None
  last_cover at (r ∷ rs) prefix =
      option_or (last_cover (at + 1) rs prefix)
      (if covers r.prefix prefix && sure r.tree then Some at else None)

  abbrev pub hidden_from : ℕ → List Rule → List Hidden
  hidden_from at [] = []
  hidden_from at (r ∷ rs) =
      hidden_by at (last_cover (at + 1) rs r.prefix) ++ hidden_from (at + 1) rs

-- the entries of a table that have a later entry which covers them and is sure, in the table's
-- order, each with the last such entry
abbrev pub hidden_in : List Rule → List Hidden
hidden_in rules = hidden_from (is_sure rules) 0 rules

-- whether the entry at a position is one of those
abbrev pub is_named : List Hidden → ℕ → Bool
is_named [] at = false
is_named (h ∷ hs) at = (h.entry == at) || is_named hs at

-- the entries of a table that are not among those, where the first has this position
abbrev pub without_from : ℕ → List Hidden → List Rule → List Rule
without_from at list [] = []
without_from at list (r ∷ rs) =
    if is_named list at then without_from (at + 1) list rs
    else r ∷ without_from (at + 1) list rs

abbrev pub without : List Hidden → List Rule → List Rule
without list rules = without_from 0 list rules
