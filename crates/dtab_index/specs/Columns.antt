-- What an index knows of prefixes, position by position of their labels. Prefixes go by their
-- places.
use Rattle.std.specs.Prelude.{◌≡◌, ℕ, ◌≤◌, Bool, true, false, not, ◌&&◌, ◌||◌, List, [], ◌∷◌}
use Rattle.std.specs.Prelude.{length, Option, Some, None, Vec}
use Rattle.std.specs.HashMap.{HashMap, get_by}
use Rattle.std.specs.List.{slice_get}
use Rattle.std.specs.Str.{bytes_eq}
use Rattle.std.specs.declared.alloc.Global.{Global}
use Rattle.dtab_index.specs.Bits.{has}
use Rattle.dtab_index.specs.Index.{Label, Pattern}
use Rattle.dtab_index.specs.declared.bits.Bits.{Bits}
use Rattle.dtab_index.specs.declared.column.Column.{Column}

-- the prefixes that have a label, if any has it
abbrev pub row_of : {S : Type 0} → HashMap (Vec ℕ Global) Bits S → Label → Option Bits
row_of rows l = get_by (λ own. bytes_eq l own.items) rows

abbrev pub in_row : Option Bits → ℕ → Bool
in_row None place = false
in_row (Some row) place = has row.words place

-- whether a prefix has a label at a position
abbrev pub has_label : Column → Label → ℕ → Bool
has_label column l place = in_row (row_of column.rows l) place

-- whether a prefix may match a path that has this label at a position: it has the same there, `*`,
-- or none
abbrev pub allows : Column → Label → ℕ → Bool
allows column l place = has_label column l place || not (has column.named.words place)

-- whether a prefix matches a path, by what is known of it at each position
abbrev pub passes : List Column → List Label → ℕ → Bool
passes [] path place = true
passes (c ∷ cs) [] place = not (has c.reached.words place)
passes (c ∷ cs) (l ∷ ls) place = allows c l place && passes cs ls place

-- nothing is known of a prefix at a position
pub record IsBlank (column : Column) (place : ℕ) : Type 0 where
  pub reached : has column.reached.words place ≡ false
  pub named : has column.named.words place ≡ false
  pub rows : (l : Label) → has_label column l place ≡ false

-- what a prefix has at a position is known
abbrev pub Says : Column → Pattern → ℕ → Type 0
Says column None place =
    (has column.reached.words place ≡ true) × (has column.named.words place ≡ false)
Says column (Some m) place =
    (has column.reached.words place ≡ true) × (has column.named.words place ≡ true)
    × ((l : Label) → has_label column l place ≡ bytes_eq m l)

-- and that it has no label there, where it ends before
abbrev pub SaysAt : Column → Option Pattern → ℕ → Type 0
SaysAt column None place =
    (has column.reached.words place ≡ false) × (has column.named.words place ≡ false)
SaysAt column (Some p) place = Says column p place

-- what a prefix has is known at each position
pub record AreSaid (columns : List Column) (prefix : List Pattern) (place : ℕ) : Type 0 where
  pub long : length prefix ≤ length columns
  pub each : (k : ℕ) (c : Column) → slice_get columns k ≡ Some c
      → SaysAt c (slice_get prefix k) place

-- nothing is known of a prefix at any position
abbrev pub AreBlank : List Column → ℕ → Type 0
AreBlank columns place = (k : ℕ) (c : Column) → slice_get columns k ≡ Some c → IsBlank c place

-- the same is known of a prefix at a position before and after
pub record SaySame (old new : Column) (place : ℕ) : Type 0 where
  pub reached : has new.reached.words place ≡ has old.reached.words place
  pub named : has new.named.words place ≡ has old.named.words place
  pub rows : (l : Label) → has_label new l place ≡ has_label old l place

-- what is known of a prefix stands
pub record KeepSaid (old new : List Column) (place : ℕ) : Type 0 where
  pub said : (prefix : List Pattern) → AreSaid old prefix place → AreSaid new prefix place
  pub blank : AreBlank old place → AreBlank new place
