-- What changes, and which paths it touches.
use Rattle.std.specs.Prelude.{ℕ, suc, ◌-◌, ◌||◌, ◌&&◌, Bool, false, if◌then◌else◌, List, [], ◌∷◌}
use Rattle.std.specs.Prelude.{codes, length, take, drop, reverse}
use Rattle.std.specs.Str.{bytes_eq}
use Rattle.name_tree.specs.Path.{Labels}
use Rattle.dtab_table.specs.Rules.{Rule}
use Rattle.dtab_table.specs.Dtab.{some_matches}
use Rattle.bind_cache.specs.Same.{same_rule}

-- how many rules two lists have in common at their fronts
abbrev pub common_front : List Rule → List Rule → ℕ
common_front [] new = 0
common_front (r ∷ rs) [] = 0
common_front (r ∷ rs) (q ∷ qs) = if same_rule r q then suc (common_front rs qs) else 0

-- how many they have in common at their ends
abbrev pub common_back : List Rule → List Rule → ℕ
common_back old new = common_front (reverse old) (reverse new)

-- a list without so many rules at its end
abbrev pub without_back : ℕ → List Rule → List Rule
without_back n rules = take (length rules - n) rules

-- what a table had and what it has in its place: all rules but those that both have at their
-- fronts, and of what is left but those that both have at their ends
abbrev pub gone : List Rule → List Rule → List Rule
gone old new =
    let front = common_front old new
    in without_back (common_back (drop front old) (drop front new)) (drop front old)

abbrev pub added : List Rule → List Rule → List Rule
added old new =
    let front = common_front old new
    in without_back (common_back (drop front old) (drop front new)) (drop front new)

-- a rule that the table had or has in its place matches the path
abbrev pub is_touched_by_table : List Rule → List Rule → Labels → Bool
is_touched_by_table old new path =
    some_matches (gone old new) path || some_matches (added old new) path

-- the path is `/#/io.l5d.fs/SERVICE`, or begins so
abbrev pub names_service : List ℕ → Labels → Bool
names_service service (hash ∷ fs ∷ name ∷ rest) =
    (bytes_eq hash (codes "#") && bytes_eq fs (codes "io.l5d.fs")) && bytes_eq name service
names_service service _ = false
