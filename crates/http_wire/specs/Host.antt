-- The host of a request (RFC 9112 sections 3.2 and 3.3, RFC 9110 section 7.2).
use Rattle.std.specs.Prelude.{◌≡◌, Result, Ok, Err, ⊤, ℕ, List, [], ◌∷◌, codes, ◌==◌, Option, Some}
use Rattle.std.specs.Prelude.{None, option_map, if◌then◌else◌}
use Rattle.http_wire.specs.declared.head.Field.{Field}
use Rattle.std.specs.declared.vec.Vec.{Vec}
use Rattle.std.specs.declared.alloc.Global.{Global}
use Rattle.http_wire.specs.declared.host.HostFault.{HostFault}
use Rattle.http_wire.specs.declared.host.HostFault.TheVariants.{NoHost, OutOfMemory}
use Rattle.http_wire.specs.Fields.{values_of}

-- the value of the one Host field, which only HTTP/1.0 may leave out; nothing where the fields
-- don't fit the version
abbrev pub host_field : ℕ → List (List ℕ) → Option (List ℕ)
host_field minor [] = if minor == 0 then Some [] else None
host_field minor (host ∷ []) = Some host
host_field minor (host ∷ other ∷ hosts) = None

-- the authority of an absolute target stands in the place of the field's value
abbrev pub over : Option (List ℕ) → List ℕ → List ℕ
over None host = host
over (Some authority) host = authority

-- the host of a request of this minor version, with these fields and the authority of its target
abbrev pub host_of : ℕ → List Field → Option (List ℕ) → Option (List ℕ)
host_of minor fields authority =
    option_map (over authority) (host_field minor (values_of (codes "host") fields))

-- an answer that gives this host, or nothing
abbrev pub Gives : Option (List ℕ) → Result (Vec ℕ Global) HostFault → Type 0
Gives host (Ok bytes) = host ≡ Some bytes.items
Gives host (Err NoHost) = host ≡ None
Gives host (Err OutOfMemory) = ⊤
