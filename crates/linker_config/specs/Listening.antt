-- Where the router, the namer's interface and the administrator's listen.
use Rattle.std.specs.Prelude.{ℕ, ◌&&◌, ◌==◌, Bool, nat_le, if◌then◌else◌, List, [], ◌∷◌, length}
use Rattle.std.specs.Prelude.{map, codes, Option, Some, None, Ok}
use Rattle.std.specs.List.{list_all, slice_split}
use Rattle.serde_json.specs.Data.{Data}
use Rattle.addr_book.specs.Addr.{ip_of_octets, octet_value}
use Rattle.addr_book.specs.Name.{is_name_byte}
use Rattle.linker_config.specs.declared.config.Port.{Port}
use Rattle.linker_config.specs.declared.listening.Named as code
use Rattle.linker_config.specs.Keys.{Told, and_then, keys_told}
use Rattle.linker_config.specs.Values.{number_at, text_at}

-- an IPv4 address: four numbers from 0 to 255 without leading zeros, with points between them
unfoldable pub ip_value : List ℕ → Option ℕ
ip_value text = ip_of_octets (map octet_value (slice_split (λ b. b == 46) text))

-- 127.0.0.1
abbrev pub loopback : ℕ
loopback = 2130706433

-- `ip` and `port` of the object at a place
unfoldable pub port_told : List ℕ → ℕ → Data → Told Port
port_told place default d =
    and_then (text_at place (codes "ip") loopback ip_value d) (λ ip.
    and_then (number_at place (codes "port") default 1 65535 d) (λ port.
    Ok (record { ip = ip; port = port })))

unfoldable pub admin_told : Data → Told Port
admin_told d =
    and_then (keys_told (codes "admin") (codes "ip" ∷ codes "port" ∷ []) [] d) (λ _.
    port_told (codes "admin") 9990 d)

-- where nothing is said of the administrator's interface
abbrev pub usual_admin : Port
usual_admin = record { ip = loopback; port = 9990 }

-- 1 to 255 bytes that may stand in a name
abbrev pub is_name : List ℕ → Bool
is_name text = nat_le 1 (length text) && nat_le (length text) 255 && list_all is_name_byte text

unfoldable pub name_value : List ℕ → Option (List ℕ)
name_value text = if is_name text then Some text else None

-- where a namer's interface listens, and the namespace of the router
pub record Named : Type 0 where
  pub port : Port
  pub space : List ℕ

abbrev pub named_of : code.Named → Named
named_of n = record { port = n.port; space = n.space }

-- where nothing is said of the interface to the namespaces
abbrev pub usual_named : Named
usual_named = record { port = record { ip = loopback; port = 4180 }; space = codes "default" }

unfoldable pub namerd_told : Data → Told Named
namerd_told d =
    and_then (keys_told (codes "namerd") (codes "ip" ∷ codes "port" ∷ codes "namespace" ∷ []) [] d)
    (λ _.
    and_then (port_told (codes "namerd") 4180 d) (λ port.
    and_then (text_at (codes "namerd") (codes "namespace") (codes "default") name_value d)
    (λ space.
    Ok (record { port = port; space = space }))))
