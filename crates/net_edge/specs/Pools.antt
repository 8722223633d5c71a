-- The connections that a dialer over sockets keeps.
use Rattle.std.specs.Prelude.{ℕ, List, map}
use Rattle.net_edge.specs.declared.sockets.idle.IdleUpstream.{IdleUpstream}

-- where they lead
abbrev pub address_of : IdleUpstream → ℕ × ℕ
address_of idle = (idle.upstream.ip, idle.upstream.port)

abbrev pub addresses : List IdleUpstream → List (ℕ × ℕ)
addresses kept = map address_of kept
