-- Whether a router takes routes from clients that may be anybody.
use Rattle.std.specs.Prelude.{ℕ, ◌/◌, Bool, not, ◌&&◌, ◌==◌, is_none}
use Rattle.linker_config.specs.declared.config.Config.{Config}

-- an address of this machine alone (RFC 1122 section 3.2.1.3)
abbrev pub is_loopback : ℕ → Bool
is_loopback ip = ip / 16777216 == 127

-- the router listens to other machines, and nothing is said of clearing the context of requests
abbrev pub hears_strangers : Config → Bool
hears_strangers c = is_none c.clear_context && not (is_loopback c.server.ip)
