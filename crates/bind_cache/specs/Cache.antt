-- The delegations that are kept, as a list, the oldest first.
use Rattle.std.specs.Prelude.{◌≡◌, ℕ, ◌≤◌, nat_lt, ◌&&◌, Bool, true, not, if◌then◌else◌, List, []}
use Rattle.std.specs.Prelude.{◌∷◌, ◌++◌, length, drop, filter, All, Option, Some, None, is_none}
use Rattle.std.specs.List.{list_any}
use Rattle.name_tree.specs.Path.{Labels}
use Rattle.dtab_table.specs.Rules.{Rule}
use Rattle.bind_core.specs.Delegation.{Ending, Names}
use Rattle.bind_cache.specs.Kept.{Kept, is_key, IsRight}
use Rattle.bind_cache.specs.Changes.{is_touched_by_table, names_service}

-- how many are kept at most, and at what cost
abbrev pub most_kept : ℕ
most_kept = 1024

abbrev pub most_cost : ℕ
most_cost = 256

-- what is kept for a path and the request's own rules
abbrev pub found_in : List Kept → Labels → List Rule → Option Ending
found_in [] path local = None
found_in (k ∷ ks) path local = if is_key path local k then Some k.ending else found_in ks path local

-- the oldest goes where as many are kept as may be
abbrev pub with_room : {X : Type 0} → List X → List X
with_room xs = if nat_lt (length xs) most_kept then xs else drop 1 xs

-- with one more, which is the newest
abbrev pub kept_in : List Kept → Kept → List Kept
kept_in ks k = with_room ks ++ k ∷ []

-- without those of which a path that was looked up is touched
abbrev pub untouched : (Labels → Bool) → List Kept → List Kept
untouched touched ks = filter (λ k. not (list_any touched k.asked)) ks

-- after one table took the place of another
abbrev pub after_table : List Rule → List Rule → List Kept → List Kept
after_table old new ks = untouched (is_touched_by_table old new) ks

-- after a service was added or removed
abbrev pub after_service : List ℕ → List Kept → List Kept
after_service service ks = untouched (names_service service) ks

-- no two are asked for by the same path and rules
abbrev pub keys_differ : List Kept → Bool
keys_differ [] = true
keys_differ (k ∷ ks) = is_none (found_in ks k.path k.local) && keys_differ ks

-- a cache: not too many, no two with one key, each of them cheap
pub record IsCache (ks : List Kept) : Type 0 where
  pub few : length ks ≤ most_kept
  pub apart : keys_differ ks ≡ true
  pub cheap : All (λ k. k.cost ≤ most_cost) ks

-- a cache that is right: for the rules of the proxy that stand before a request's own, and with
-- these names
pub record AreRight (rules : List Rule) (names : Names) (ks : List Kept) : Type 0 where
  pub cache : IsCache ks
  pub right : All (IsRight rules names) ks
