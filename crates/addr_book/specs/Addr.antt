-- The texts of hosts, ports and addresses, and the order of addresses.
use Rattle.std.specs.Prelude.{ℕ, ◌+◌, ◌*◌, ◌/◌, ◌%◌, ◌==◌, nat_le, if◌then◌else◌, List, []}
use Rattle.std.specs.Prelude.{◌∷◌, ◌++◌, map, codes, Option, Some, None}
use Rattle.std.specs.Option.{option_and_then}
use Rattle.std.specs.List.{slice_split}
use Rattle.std.specs.Str.{bytes_eq}
use Rattle.std.specs.Fmt.{decimal}
use Rattle.text_parts.specs.Numbers.{at_most, number_value}
use Rattle.addr_book.specs.declared.addr.Addr.{Addr}

-- a part of an IPv4 address: 0 to 255
abbrev pub octet_value : List ℕ → Option ℕ
octet_value text = at_most 255 (number_value text)

-- four parts make an address, the first the highest
abbrev pub ip_of_octets : List (Option ℕ) → Option ℕ
ip_of_octets (Some a ∷ Some b ∷ Some c ∷ Some d ∷ []) = Some (((a * 256 + b) * 256 + c) * 256 + d)
ip_of_octets _ = None

-- a host: `localhost`, which is 127.0.0.1, or four numbers with points between them
abbrev pub host_value : List ℕ → Option ℕ
host_value text =
    if bytes_eq text (codes "localhost") then Some 2130706433
    else ip_of_octets (map octet_value (slice_split (λ b. b == 46) text))

-- a port: 1 to 65535
abbrev pub port_value : List ℕ → Option ℕ
port_value text =
    option_and_then (λ n. if nat_le 1 n then Some n else None) (at_most 65535 (number_value text))

-- the address of a host and a port
abbrev pub addr_of : Option ℕ → Option ℕ → Option Addr
addr_of (Some ip) (Some port) = Some (record { ip = ip; port = port })
addr_of _ _ = None

-- an IPv4 address as text: four numbers with points between them
abbrev pub ip_text : ℕ → List ℕ
ip_text ip =
    decimal (ip / 16777216) ++ codes "." ++ decimal (ip / 65536 % 256) ++ codes "."
    ++ decimal (ip / 256 % 256) ++ codes "." ++ decimal (ip % 256)

-- an address as text: the IPv4 address, `:`, and the port
abbrev pub addr_text : Addr → List ℕ
addr_text addr = ip_text addr.ip ++ codes ":" ++ decimal addr.port
