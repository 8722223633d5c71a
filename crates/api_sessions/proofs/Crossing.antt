-- Callers that wait, and workers, may go to other threads.
use denote.RattleType.{RattleType}
use denote.Hole.{as_row}
use denote.Struct.Field.{row_field}
use denote.Param.Send.{IsSend, sendable, view_send}
use denote.Param.SendFields.{as_row_send, declared_send, variants_send}
use Rattle.std.proofs.Crossing.{crosses}
use Rattle.std.specs.declared.sync.ledger.Ledger as ledger
use Rattle.line_base.specs.declared.outside.Peer as peer
use Rattle.router.specs.declared.naming.Naming as naming
use Rattle.router.proofs.Crossing.{pass_send, ticket_send}
use Rattle.api_sessions.specs.contracts.idle.IdleCaller as IdleCaller
use Rattle.api_sessions.specs.contracts.idle.IdleCaller.TheInside as Inside
use Rattle.api_sessions.specs.contracts.which.Which as Which
use Rattle.api_sessions.specs.contracts.worker.ApiWorker as ApiWorker

own_send : (T : RattleType) → IsSend T → IsSend (as_row (row_field T))
own_send T s = as_row_send (row_field T) s

module _ (J S X : RattleType) (n : naming.Ghosts J.Denot) (l : ledger.Ghosts J.Denot) where
  pub worker_send : IsSend J → IsSend S → IsSend X → IsSend (ApiWorker.the_row J S X n l)
  worker_send j s x =
      declared_send (ApiWorker.the_type J S X n l)
      (pass_send J n l j, (own_send S s, (own_send X x, tt)))

which_send : IsSend Which.the_row
which_send = variants_send Which.enum (tt, ((search sendable, tt), ((search sendable, tt), tt)))

module _ (P J : RattleType) (n : naming.Ghosts J.Denot) (l : ledger.Ghosts J.Denot)
    (p : peer.Ghosts P.Denot) where
  inside_send : IsSend P → IsSend J → IsSend (Inside.the_row P J n l p)
  inside_send s j =
      declared_send (Inside.the_type P J n l p) (
        own_send P s,
        (
          which_send,
          (search sendable, (ticket_send J n l j, (search (crosses, sendable) depth 40, tt))),
        ),
      )

  pub idle_caller_send : IsSend P → IsSend J → IsSend (IdleCaller.the_field P J n l p).row
  idle_caller_send s j = view_send (Inside.the_row P J n l p) _ _ _ _ (inside_send s j)
