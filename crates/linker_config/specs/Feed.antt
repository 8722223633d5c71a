-- Where the feed of the namespaces is served.
use Rattle.std.specs.Prelude.{ℕ, ◌-◌, ◌^◌, List, [], ◌∷◌, codes, Option, Ok}
use Rattle.serde_json.specs.Data.{Data}
use Rattle.serde_json.specs.Find.{get}
use Rattle.linker_config.specs.declared.config.FeedAt.{FeedAt}
use Rattle.linker_config.specs.declared.fault.ConfigFault.TheVariants.{Bad}
use Rattle.linker_config.specs.Keys.{Told, and_then, inside, keys_told, or_fault}
use Rattle.linker_config.specs.Listening.{port_told}
use Rattle.linker_config.specs.Values.{if_there, number_in}

abbrev pub feed_place : List ℕ
feed_place = codes "feed"

-- any number of 64 bits
abbrev pub run_number : Data → Told ℕ
run_number d = or_fault (Bad (inside feed_place (codes "run"))) (number_in 0 (2 ^ 64 - 1) d)

-- the number of the run, if one is said
unfoldable pub run_told : Data → Told (Option ℕ)
run_told d = if_there run_number (get (codes "run") d)

unfoldable pub feed_told : Data → Told FeedAt
feed_told d =
    and_then (keys_told feed_place (codes "ip" ∷ codes "port" ∷ codes "run" ∷ []) [] d) (λ _.
    and_then (port_told feed_place 4181 d) (λ port.
    and_then (run_told d) (λ run.
    Ok (record { port = port; run = run }))))
