-- The names that Connection fields list, lowered, so that they can be found by halves.
use Rattle.std.specs.Prelude.{◌≡◌, ℕ, Bool, List, map, bytes_eq}
use Rattle.std.specs.List.{list_any}
use Rattle.std.specs.Ordering.{nat_cmp}
use Rattle.std.specs.declared.cmp.Ordering.{Ordering}
use Rattle.std.specs.Cmp.Lexicographic.{slice_cmp}
use Rattle.std.specs.declared.vec.Vec.{Vec}
use Rattle.std.specs.declared.alloc.Global.{Global}
use Rattle.http_wire.specs.Fields.{lower, same_ignoring_case}

-- the order of texts: byte by byte
abbrev pub text_order : Vec ℕ Global → Vec ℕ Global → Ordering
text_order a b = slice_cmp nat_cmp a.items b.items

-- the names in lower case
abbrev pub lowered : List (List ℕ) → List (List ℕ)
lowered names = map lower names

-- the name is among these, which are in lower case
abbrev pub is_among_lowered : List (Vec ℕ Global) → List ℕ → Bool
is_among_lowered names name = list_any (λ (n : Vec ℕ Global). bytes_eq n.items (lower name)) names

-- the lowered names stand for these: a name is among the ones where it is among the others, in any
-- case
abbrev pub StandFor : List (Vec ℕ Global) → List (List ℕ) → Type 0
StandFor names pieces =
    (name : List ℕ) → is_among_lowered names name ≡ list_any (same_ignoring_case name) pieces
