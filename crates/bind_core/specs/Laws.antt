-- What holds of all delegations.
use Rattle.std.specs.Prelude.{◌≡◌, List, [], ◌∷◌}
use Rattle.name_tree.specs.Path.{Labels}
use Rattle.name_tree.specs.Value.{TreeValue, append_rest}
use Rattle.name_tree.specs.Lean.{lean}
use Rattle.dtab_table.specs.Dtab.{rewrites}
use Rattle.dtab_table.specs.Rules.{Rule}
use Rattle.bind_core.specs.Delegation.{Names, Told, walk, told_in, asked_of}

module _ (rules others : List Rule) (names renames : Names) where
  -- two tables rewrite a path to the same trees, and it names the same by itself
  abbrev pub AgreeAt : Labels → Type 0
  AgreeAt path = (rewrites rules path ≡ rewrites others path) × (names path ≡ renames path)

  abbrev pub AgreeAtAll : List Labels → Type 0
  AgreeAtAll [] = Unit {0}
  AgreeAtAll (path ∷ paths) = AgreeAt path × AgreeAtAll paths

-- a delegation depends on nothing but what the tables and the names say of the paths that it looks
-- up: where others say the same of those, they tell the same ending after the same lookups
abbrev pub IsLocal : Type 0
IsLocal = (rules others : List Rule) (names renames : Names) (path : Labels)
    → AgreeAtAll rules others names renames (asked_of rules names path)
    → told_in others renames path ≡ told_in rules names path

-- a lean tree tells the same ending after the same lookups, whatever its leaves come to, and with
-- whatever behind them
abbrev pub AreWalkedLean : Type 0
AreWalkedLean = (look : Labels → Told) (t : TreeValue) (rest : Labels)
    → walk look (append_rest (lean t) rest) ≡ walk look (append_rest t rest)
