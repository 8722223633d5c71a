-- Where the access log of a router is.
use Rattle.std.specs.Prelude.{ℕ, List, codes, Option, option_and_then}
use Rattle.serde_json.specs.Data.{Data}
use Rattle.serde_json.specs.Find.{get}
use Rattle.linker_config.specs.Values.{non_empty, text_by}

-- a text of one or more bytes names a file; any other value says nothing
abbrev pub log_in : Data → Option (List ℕ)
log_in d = text_by non_empty d

abbrev pub log_of : Data → Option (List ℕ)
log_of d = option_and_then log_in (get (codes "httpAccessLog") d)
