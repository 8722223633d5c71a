-- The folder of the services' addresses.
use Rattle.std.specs.Prelude.{ℕ, List, [], ◌∷◌, codes, Option, option_and_then}
use Rattle.serde_json.specs.Data.{Data}
use Rattle.serde_json.specs.Find.{as_array}
use Rattle.linker_config.specs.declared.fault.ConfigFault.TheVariants.{Bad}
use Rattle.linker_config.specs.Keys.{Told, and_then, keys_told, or_fault}
use Rattle.linker_config.specs.Values.{at_most_one, exactly, if_there, needed_text, non_empty}

unfoldable pub namer_told : Data → Told (List ℕ)
namer_told d =
    and_then (keys_told (codes "namers[0]") (codes "kind" ∷ codes "rootDir" ∷ [])
    (codes "kind" ∷ codes "rootDir" ∷ []) d) (λ _.
    and_then (needed_text (codes "namers[0]") (codes "kind") (exactly (codes "io.l5d.fs")) d) (λ _.
    needed_text (codes "namers[0]") (codes "rootDir") non_empty d))

-- the folder, if there is a namer
unfoldable pub namers_told : Data → Told (Option (List ℕ))
namers_told d =
    and_then (or_fault (Bad (codes "namers")) (option_and_then at_most_one (as_array d)))
    (if_there namer_told)
