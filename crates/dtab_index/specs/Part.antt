-- A part of an index: as many prefixes as a set of places tells of.
use Rattle.std.specs.Prelude.{◌≡◌, ℕ, ◌-◌, ◌<◌, ◌≤◌, Bool, ◌&&◌, nat_le, nat_lt, List, [], ◌∷◌}
use Rattle.std.specs.Prelude.{length, Option, Some, None}
use Rattle.std.specs.List.{slice_get}
use Rattle.dtab_index.specs.Columns.{AreBlank, AreSaid}
use Rattle.dtab_index.specs.Prefix.{patterns_of}
use Rattle.dtab_index.specs.Index.{Placed}
use Rattle.dtab_index.specs.declared.column.Column.{Column}
use Rattle.dtab_index.specs.declared.part.Entry.{Entry}

abbrev pub placed_of : Entry → Placed
placed_of entry = (patterns_of entry.prefix.value.items, entry.at)

-- the prefixes of a part, but for those for which there was no memory
abbrev pub placed_in : List (Option Entry) → List Placed
placed_in [] = []
placed_in (None ∷ es) = placed_in es
placed_in (Some e ∷ es) = placed_of e ∷ placed_in es

-- the position of a prefix, if there is one
abbrev pub position_of : Option (Option Entry) → List ℕ
position_of None = []
position_of (Some None) = []
position_of (Some (Some e)) = e.at ∷ []

-- the position of the prefix at a place: the first that was added has the place 1,023, each later
-- one one less
abbrev pub positions_at : List (Option Entry) → ℕ → List ℕ
positions_at entries place = position_of (slice_get entries (1023 - place))

-- whether a position is one of some, from the first of them to before the last
abbrev pub is_between : ℕ → ℕ → ℕ → Bool
is_between from to at = nat_le from at && nat_lt at to

-- what each prefix has is known, and of prefixes to come nothing
pub record IsKept (entries : List (Option Entry)) (columns : List Column) : Type 0 where
  pub few : length entries ≤ 1024
  pub said : (k : ℕ) (e : Entry) → slice_get entries k ≡ Some (Some e)
      → AreSaid columns (patterns_of e.prefix.value.items) (1023 - k)
  pub blank : (k : ℕ) → length entries ≤ k → k < 1024 → AreBlank columns (1023 - k)
