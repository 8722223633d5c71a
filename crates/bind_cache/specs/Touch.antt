-- What the code's changes say.
use Rattle.std.specs.Prelude.{◌-◌, ◌||◌, Bool, List, take, drop}
use Rattle.name_tree.specs.Path.{Labels}
use Rattle.dtab_table.specs.Rules.{Rule}
use Rattle.dtab_table.specs.Dtab.{rules_of, some_matches}
use Rattle.bind_cache.specs.declared.touch.ChangedRules.{ChangedRules}
use Rattle.bind_cache.specs.declared.touch.Touch.{Touch}
use Rattle.bind_cache.specs.declared.touch.Touch.TheVariants.{Rules, Service}
use Rattle.bind_cache.specs.Changes.{names_service}

-- the rules that the table had, and those that it has in their place
abbrev pub gone_in : ChangedRules → List Rule
gone_in c = take (c.old_end - c.front) (drop c.front (rules_of c.old.now))

abbrev pub added_in : ChangedRules → List Rule
added_in c = take (c.new_end - c.front) (drop c.front (rules_of c.new.now))

-- whether a path is touched
abbrev pub touched_by : Touch → Labels → Bool
touched_by (Rules c) path = some_matches (gone_in c) path || some_matches (added_in c) path
touched_by (Service name) path = names_service name.now path
