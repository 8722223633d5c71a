-- A delegation that is kept, and when it is right.
use Rattle.std.specs.Prelude.{◌≡◌, ℕ, ◌&&◌, Bool, List, ◌++◌, Option, Some, None, if◌then◌else◌}
use Rattle.name_tree.specs.Path.{Labels}
use Rattle.dtab_table.specs.Rules.{Rule}
use Rattle.bind_core.specs.Delegation.{Ending, Names, outcome_of, cost_of, kept_asked}
use Rattle.bind_cache.specs.Same.{same_path, same_rules}

-- what a path came to with the request's own rules behind those of the proxy, at how many lookups,
-- and which paths were looked up for it, where those are few. Besides, how many bytes its texts
-- have, and how many changes had been accepted when it was worked out
pub record Kept : Type 0 where
  pub path : Labels
  pub local : List Rule
  pub ending : Ending
  pub cost : ℕ
  pub asked : List Labels
  pub bytes : ℕ
  pub place : ℕ

-- it is asked for by its path and the request's own rules
abbrev pub is_key : Labels → List Rule → Kept → Bool
is_key path local k = same_path path k.path && same_rules local k.local

-- what it came to, where it is asked for so
abbrev pub ending_for : Labels → List Rule → Option Kept → Option Ending
ending_for path local None = None
ending_for path local (Some k) = if is_key path local k then Some k.ending else None

-- a delegation by the rules of the proxy and then its own, with these names, comes to what was kept
pub record IsRight (rules : List Rule) (names : Names) (k : Kept) : Type 0 where
  pub ending : k.ending ≡ outcome_of (rules ++ k.local) names k.path
  pub cost : k.cost ≡ cost_of (rules ++ k.local) names k.path
  pub asked : k.asked ≡ kept_asked (rules ++ k.local) names k.path
