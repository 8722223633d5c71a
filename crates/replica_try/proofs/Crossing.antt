-- A way to replicas may go to another thread.
use denote.RattleType.{RattleType}
use denote.Hole.{as_row}
use denote.Struct.Field.{row_field}
use denote.Param.Send.{IsSend, sendable}
use denote.Param.SendFields.{as_row_send, declared_send}
use Rattle.std.proofs.Crossing.{crosses}
use Rattle.http_wire.proofs.rest.Rest.TheSendSync as rest
use Rattle.replica_try.specs.contracts.way.Way as Way

pub own_send : (T : RattleType) → IsSend T → IsSend (as_row (row_field T))
own_send T s = as_row_send (row_field T) s

module _ (D : RattleType) where
  pub way_send : IsSend D → IsSend (Way.the_row D)
  way_send d =
      declared_send (Way.the_type D) (
        own_send D d,
        (
          search (as_row_send, sendable, crosses) depth 40,
          (
            rest.the_send,
            (search (as_row_send, sendable, crosses) depth 40, tt),
          ),
        ),
      )
