-- A path as one list of bytes, with the places where its labels end.
use Rattle.std.specs.Prelude.{◌≡◌, ℕ, zero, suc, ◌+◌, ◌-◌, ◌<◌, ◌≤◌, List, [], ◌∷◌, length, take}
use Rattle.std.specs.Prelude.{drop}
use Rattle.name_tree.specs.Path.{Labels}

-- the labels of bytes that begin at a place, which end at these
abbrev pub labels_in : ℕ → List ℕ → List ℕ → Labels
labels_in from [] bytes = []
labels_in from (e ∷ es) bytes = take (e - from) bytes ∷ labels_in e es (drop (e - from) bytes)

-- each label has a byte, and the last ends with the bytes
abbrev pub AreCut : ℕ → List ℕ → List ℕ → Type 0
AreCut from [] bytes = bytes ≡ []
AreCut from (e ∷ es) bytes =
    (from < e) × (e - from ≤ length bytes) × AreCut e es (drop (e - from) bytes)

-- where a label begins, counted from 0
abbrev pub start_at : ℕ → List ℕ → ℕ → ℕ
start_at from es zero = from
start_at from [] (suc at) = from
start_at from (e ∷ es) (suc at) = start_at e es at

-- the places of labels that are moved
abbrev pub moved : ℕ → ℕ → List ℕ → List ℕ
moved old new [] = []
moved old new (e ∷ es) = (e - old + new) ∷ moved old new es
