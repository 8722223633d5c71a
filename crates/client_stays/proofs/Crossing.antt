-- A connection that waits may go to other threads.
use denote.RattleType.{RattleType}
use denote.Param.Send.{IsSend, sendable, view_send}
use denote.Param.SendFields.{declared_send}
use Rattle.std.proofs.Crossing.{crosses}
use Rattle.std.specs.declared.sync.ledger.Ledger as ledger
use Rattle.line_base.specs.declared.outside.Peer as peer
use Rattle.router.specs.declared.naming.Naming as naming
use Rattle.router.proofs.Crossing.{ticket_send}
use Rattle.proxy_session.proofs.Crossing.{connection_send}
use Rattle.client_stays.specs.contracts.client.IdleClient as IdleClient
use Rattle.client_stays.specs.contracts.client.IdleClient.TheInside as Inside
use Rattle.client_stays.specs.declared.handling.Handling as handling

module _ (P J : RattleType) (n : naming.Ghosts J.Denot) (l : ledger.Ghosts J.Denot)
    (p : peer.Ghosts P.Denot) (h : handling.Ghosts J.Denot) where
  inside_send : IsSend P → IsSend J → IsSend (Inside.the_row P J n l p h)
  inside_send s j =
      declared_send (Inside.the_type P J n l p h) (
        connection_send P s,
        (ticket_send J n l j, (search (crosses, sendable) depth 40, tt)),
      )

  pub idle_client_send : IsSend P → IsSend J → IsSend (IdleClient.the_field P J n l p h).row
  idle_client_send s j = view_send _ _ _ _ _ (inside_send s j)
