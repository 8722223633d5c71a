-- What it means that entries are never asked.
use Rattle.std.specs.Prelude.{◌≡◌, List, ◌++◌}
use Rattle.name_tree.specs.Path.{Labels}
use Rattle.dtab_table.specs.Rules.{Rule}
use Rattle.addr_book.specs.Book.{Contents}
use Rattle.addr_book.specs.Namer.{named_in}
use Rattle.bind_core.specs.Delegation.{Names, outcome_of, cost_of, asked_of, trace_of}

-- a path comes to the same in two tables, at the same cost, by the same lookups
pub record ComesToSame (old new : List Rule) (names : Names) (path : Labels) : Type 0 where
  pub outcome : outcome_of new names path ≡ outcome_of old names path
  pub cost : cost_of new names path ≡ cost_of old names path
  pub asked : asked_of new names path ≡ asked_of old names path
  pub trace : trace_of new names path ≡ trace_of old names path

-- one table may stand in place of another: every path comes to the same, whatever table stands
-- before it, whatever table stands behind it, and with every book
abbrev pub MayReplace : List Rule → List Rule → Type 0
MayReplace old new =
    (front back : List Rule) (book : Contents) (path : Labels)
    → ComesToSame (front ++ (old ++ back)) (front ++ (new ++ back)) (named_in book) path
