-- A path read byte by byte.
use Rattle.std.specs.Prelude.{ℕ, ◌==◌, if◌then◌else◌, [], ◌∷◌, ◌++◌, Option, Some, None, option_map}
use Rattle.name_tree.specs.Path.{Label, Labels}
use Rattle.name_tree.specs.Grammar.{is_blank}
use Rattle.name_tree.specs.LabelReading.{Spelling, bytes, next_spelling, end_spelling, is_path_byte}

-- how far a path is read: behind these labels, a `/` and a part of a label
pub record Walk : Type 0 where
  pub before : Labels
  pub label : Spelling

-- behind the first `/`
abbrev pub walk_start : Walk
walk_start = record { before = []; label = bytes [] }

-- behind a label and the next `/`
abbrev pub next_label : Walk → Label → Walk
next_label at l = record { before = at.before ++ l ∷ []; label = bytes [] }

abbrev pub next_walk : Walk → ℕ → Option Walk
next_walk at b =
    if b == 47 then option_map (λ l. next_label at l) (end_spelling at.label)
    else option_map (λ to. record at { label = to }) (next_spelling at.label b)

-- the empty path, where only its `/` was read
abbrev pub root_labels : Labels → Spelling → Option Labels
root_labels [] (bytes []) = Some []
root_labels _ _ = None

abbrev pub with_last : Labels → Spelling → Option Label → Option Labels
with_last ls at None = root_labels ls at
with_last ls at (Some l) = Some (ls ++ l ∷ [])

-- the labels of a path that may end here
abbrev pub end_walk : Walk → Option Labels
end_walk at = with_last at.before at.label (end_spelling at.label)

-- how far a path's text is read
pub data PathAt : Type 0 where
  -- in the blanks before it
  before : PathAt
  inside : Walk → PathAt
  -- in the blanks behind it
  behind : Labels → PathAt

abbrev pub next_path : PathAt → ℕ → Option PathAt
next_path before b =
    if is_blank b then Some before else (if b == 47 then Some (inside walk_start) else None)
next_path (inside at) b =
    if is_path_byte b then option_map (λ to. inside to) (next_walk at b) else
    (if is_blank b then option_map (λ ls. behind ls) (end_walk at) else None)
next_path (behind ls) b = if is_blank b then Some (behind ls) else None

-- the path whose text may end here
abbrev pub end_path : PathAt → Option Labels
end_path before = None
end_path (inside at) = end_walk at
end_path (behind ls) = Some ls
