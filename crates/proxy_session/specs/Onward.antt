-- The head with which a request goes on to a replica.
use Rattle.std.specs.Prelude.{◌≡◌, ℕ, Bool, List, [], ◌∷◌}
use Rattle.name_tree.specs.Path.{Labels, canon_path}
use Rattle.dtab_table.specs.Dtab.{rules_of}
use Rattle.dtab_table.specs.Rules.{Rule}
use Rattle.addr_book.specs.declared.addr.Addr.{Addr}
use Rattle.addr_book.specs.Addr.{addr_text}
use Rattle.forward.specs.declared.going.Going.{Going}
use Rattle.forward.specs.Forwarded.{forwarded}
use Rattle.http_wire.specs.declared.frames.Framing.{Framing}
use Rattle.http_wire.specs.declared.head.Head.{Head}
use Rattle.machine.specs.Values.{Replica}
use Rattle.proxy_session.specs.Seeking.{Sought}

-- whom the request asks: the replica's address where it names nobody
abbrev pub host_for : List ℕ → Addr → List ℕ
host_for [] addr = addr_text addr
host_for (b ∷ host) addr = b ∷ host

-- these are the bytes of a request's head on this way
pub record IsHeadTo
    (head : Head) (host line : List ℕ) (framing : Framing) (rules : List Rule) (service : Labels)
    (closes : Bool) (client residual bytes : List ℕ)
    : Type 0 where
  pub to : Going
  pub host_is : to.host.now ≡ host
  pub line_is : to.target.now ≡ line
  pub framing_is : to.framing ≡ framing
  pub rules_are : rules_of to.local.now ≡ rules
  pub service_is : to.service.now ≡ service
  pub client_is : to.client.now ≡ client
  pub residual_is : to.residual.now ≡ residual
  pub closes_is : to.closes ≡ closes
  pub bytes_are : bytes ≡ forwarded head to

-- those of its head to a replica, for what it seeks. `closes` says whether the replica is asked to
-- end the connection behind its reply
abbrev pub IsForwarded : Head → Sought → Bool → Replica → List ℕ → Type 0
IsForwarded head sought closes to bytes =
    IsHeadTo head (host_for sought.host to.addr) sought.line sought.framing sought.rules sought.path
    closes (canon_path to.client) (canon_path to.residual) bytes
