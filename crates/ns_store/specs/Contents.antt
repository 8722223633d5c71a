-- What a store has: its namespaces, and the version that comes next.
use Rattle.std.specs.Prelude.{ℕ, ◌+◌, List}
use Rattle.std.specs.Borrow.{Bor}
use Rattle.std.specs.Ordering.{nat_cmp}
use Rattle.std.specs.Cmp.Lexicographic.{slice_cmp}
use Rattle.std.specs.FinMap.{FinMap, empty, insert, remove}
use Rattle.dtab_table.specs.Rules.{Rule}
use Rattle.dtab_table.specs.Dtab.{rules_of}
use Rattle.dtab_table.specs.declared.dtab.Dtab.{Dtab}

-- a namespace: the version of its table, and the table's rules
pub record Space : Type 0 where
  pub version : ℕ
  pub rules : List Rule

-- namespaces by their names
abbrev pub Spaces : Type 0
Spaces = FinMap (slice_cmp nat_cmp) Space

pub record Contents : Type 0 where
  pub spaces : Spaces
  pub next : ℕ

-- no namespaces, and the first version
abbrev pub no_contents : Contents
no_contents = record { spaces = empty; next = 1 }

-- the namespace has this table with the next version, in the place of its like
abbrev pub after_set : Contents → List ℕ → List Rule → Contents
after_set store name rules =
    record {
      spaces = insert store.spaces name (record { version = store.next; rules = rules });
      next = store.next + 1;
    }

-- the namespace is gone, and the next version stays
abbrev pub after_delete : Contents → List ℕ → Contents
after_delete store name = record { spaces = remove store.spaces name; next = store.next }

-- a namespace as it is lent out
abbrev pub shown_space : ℕ × Bor Dtab → Space
shown_space p = record { version = p.0; rules = rules_of p.1.now }
