-- A server may go to another thread, and so may the connection of a client.
use denote.RattleType.{RattleType}
use denote.Param.Send.{IsSend, sendable}
use denote.Param.SendFields.{as_row_send, declared_send}
use Rattle.std.proofs.Crossing.{crosses}
use Rattle.std.specs.declared.sync.ledger.Ledger as ledger
use Rattle.http_wire.proofs.rest.Rest.TheSendSync as rest
use Rattle.line_base.proofs.socket_address.SocketAddress.TheSendSync as address
use Rattle.retry_budget.proofs.budget.Budget.TheSendSync as budget
use Rattle.router.specs.contracts.names.Names as Names
use Rattle.router.specs.declared.naming.Naming as naming
use Rattle.replica_try.proofs.Crossing.{own_send, way_send}
use Rattle.router.proofs.Crossing.{pass_send}
use Rattle.proxy_session.specs.contracts.connection.Connection as Connection
use Rattle.proxy_session.specs.contracts.server.Server as Server

names_send : IsSend Names.the_row
names_send =
    declared_send Names.the_type (
      search (as_row_send, sendable, crosses) depth 40,
      (search (as_row_send, sendable, crosses) depth 40, tt),
    )

module _ (J D C : RattleType) (n : naming.Ghosts J.Denot) (l : ledger.Ghosts J.Denot) where
  pub server_send : IsSend J → IsSend D → IsSend C → IsSend (Server.the_row J D C n l)
  server_send j d c = declared_send (Server.the_type J D C n l) (
    pass_send J n l j,
    (
      way_send D d,
      (
        own_send C c,
        (
          search (as_row_send, sendable, crosses) depth 40,
          (rest.the_send, (names_send, tt)),
        ),
      ),
    ),
  )

pub connection_send : (P : RattleType) → IsSend P → IsSend (Connection.the_row P)
connection_send P p = declared_send (Connection.the_type P) (
  own_send P p,
  (
    search (address.the_send, as_row_send, sendable, crosses) depth 40,
    (
      search sendable,
      (search (budget.the_send, as_row_send, sendable, crosses) depth 40, tt),
    ),
  ),
)
