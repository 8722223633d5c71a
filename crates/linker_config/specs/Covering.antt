-- Whether the router's own table takes all requests.
use Rattle.std.specs.Prelude.{Bool}
use Rattle.dtab_table.specs.Dtab.{rules_of, some_matches}
use Rattle.linker_config.specs.declared.config.Config.{Config}

-- an entry of the router's own table matches what all requests' paths begin with
abbrev pub table_covers_prefix : Config → Bool
table_covers_prefix c = some_matches (rules_of c.settings.base) c.rule.prefix
