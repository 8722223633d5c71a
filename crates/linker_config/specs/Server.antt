-- Where the router listens, and what it takes of its clients.
use Rattle.std.specs.Prelude.{ℕ, Bool, List, [], ◌∷◌, codes, None, Ok}
use Rattle.serde_json.specs.Data.{Data}
use Rattle.serde_json.specs.Find.{as_bool, get}
use Rattle.linker_config.specs.declared.fault.ConfigFault.TheVariants.{Bad}
use Rattle.linker_config.specs.declared.server.ServerSettings.{ServerSettings}
use Rattle.linker_config.specs.Keys.{Told, and_then, inside, keys_told, or_fault}
use Rattle.linker_config.specs.Listening.{loopback, port_told}
use Rattle.linker_config.specs.Values.{element, if_there}

-- where nothing is said of the server
abbrev pub usual_server : ServerSettings
usual_server = record { port = record { ip = loopback; port = 4140 }; clear_context = None }

abbrev pub server_place : List ℕ
server_place = codes "routers[0].servers[0]"

abbrev pub server_keys : List (List ℕ)
server_keys = codes "ip" ∷ codes "port" ∷ codes "clearContext" ∷ []

-- whether the context of requests is cleared: true or false
abbrev pub clear_value : Data → Told Bool
clear_value d = or_fault (Bad (inside server_place (codes "clearContext"))) (as_bool d)

unfoldable pub server_told : Data → Told ServerSettings
server_told d =
    and_then (keys_told server_place server_keys [] d) (λ _.
    and_then (port_told server_place 4140 d) (λ port.
    and_then (if_there clear_value (get (codes "clearContext") d)) (λ clear.
    Ok (record { port = port; clear_context = clear }))))

unfoldable pub servers_told : Data → Told ServerSettings
servers_told d = and_then (element (codes "routers[0].servers") d) server_told
