-- A server and a connection that it serves.
use Rattle.std.specs.Prelude.{ℕ, List, Option}
use Rattle.line_base.specs.Dials.{Upstream}
use Rattle.line_base.specs.Lines.{Line}
use Rattle.router.specs.declared.naming.Naming.{Ghosts}
use Rattle.proxy_session.specs.declared.connection.Connection.{Connection}
use Rattle.proxy_session.specs.declared.server.Server.{Server}
use Rattle.proxy_session.specs.Callers.{caller_of}
use Rattle.proxy_session.specs.Exchange.{Standing}

-- how both stand, by what a client, a dialer and a clock tell of themselves
module _ {J P D C : Type 0} {g : Ghosts J} (line_of : P → Line) (upstream_of : D → Upstream)
    (moments_of : C → Option (List ℕ)) where
  abbrev pub standing : Connection P → Server J D C g → Standing
  standing client server = record {
    line = line_of client.peer;
    kept = server.rest;
    upstream = upstream_of server.way.dialer;
    caller = caller_of server.pass;
    moments = moments_of server.clock;
    words = server.words;
  }
