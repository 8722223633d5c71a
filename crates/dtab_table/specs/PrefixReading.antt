-- A prefix read byte by byte.
use Rattle.std.specs.Prelude.{ℕ, Bool, ◌||◌, ◌==◌, if◌then◌else◌, List, [], ◌∷◌, ◌++◌, Option, Some}
use Rattle.std.specs.Prelude.{None, option_map}
use Rattle.name_tree.specs.Grammar.{is_blank}
use Rattle.name_tree.specs.LabelReading.{Spelling, bytes, next_spelling, end_spelling, is_path_byte}
use Rattle.dtab_table.specs.Pattern.{Pattern}

-- a part of a label, or behind a `*`
pub data PartialPattern : Type 0 where
  label : Spelling → PartialPattern
  star : PartialPattern

-- how far a prefix is read: behind these labels, a `/` and a part of a label or a `*`
pub record Walk : Type 0 where
  pub before : List Pattern
  pub part : PartialPattern

-- behind the first `/`
abbrev pub walk_start : Walk
walk_start = record { before = []; part = label (bytes []) }

-- behind a label and the next `/`
abbrev pub next_pattern : Walk → Pattern → Walk
next_pattern at p = record { before = at.before ++ p ∷ []; part = label (bytes []) }

-- a `*` stands where a label may begin
abbrev pub star_behind : PartialPattern → Option PartialPattern
star_behind (label (bytes [])) = Some star
star_behind _ = None

abbrev pub next_part : PartialPattern → ℕ → Option PartialPattern
next_part (label at) b = option_map (λ to. label to) (next_spelling at b)
next_part star b = None

-- the label that may end here
abbrev pub end_part : PartialPattern → Option Pattern
end_part (label at) = option_map (λ l. Some l) (end_spelling at)
end_part star = Some None

abbrev pub next_walk : Walk → ℕ → Option Walk
next_walk at b =
    if b == 47 then option_map (λ p. next_pattern at p) (end_part at.part) else
    option_map (λ to. record at { part = to })
    (if b == 42 then star_behind at.part else next_part at.part b)

-- the empty prefix, where only its `/` was read
abbrev pub root_patterns : List Pattern → PartialPattern → Option (List Pattern)
root_patterns [] (label (bytes [])) = Some []
root_patterns _ _ = None

abbrev pub with_last : List Pattern → PartialPattern → Option Pattern → Option (List Pattern)
with_last ps at None = root_patterns ps at
with_last ps at (Some p) = Some (ps ++ p ∷ [])

-- the labels of a prefix that may end here
abbrev pub end_walk : Walk → Option (List Pattern)
end_walk at = with_last at.before at.part (end_part at.part)

-- a byte that may stand in a prefix
abbrev pub is_prefix_byte : ℕ → Bool
is_prefix_byte b = is_path_byte b || b == 42

-- how far a prefix's text is read
pub data PrefixAt : Type 0 where
  -- in the blanks before it
  before : PrefixAt
  inside : Walk → PrefixAt
  -- in the blanks behind it
  behind : List Pattern → PrefixAt

abbrev pub next_prefix : PrefixAt → ℕ → Option PrefixAt
next_prefix before b =
    if is_blank b then Some before else (if b == 47 then Some (inside walk_start) else None)
next_prefix (inside at) b =
    if is_prefix_byte b then option_map (λ to. inside to) (next_walk at b) else
    (if is_blank b then option_map (λ ps. behind ps) (end_walk at) else None)
next_prefix (behind ps) b = if is_blank b then Some (behind ps) else None

-- the prefix whose text may end here
abbrev pub end_prefix : PrefixAt → Option (List Pattern)
end_prefix before = None
end_prefix (inside at) = end_walk at
end_prefix (behind ps) = Some ps
