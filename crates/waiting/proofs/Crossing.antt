-- A lot may be shared by threads, and hands may go to other threads, wherever the connections may
-- go there.
use denote.RattleType.{RattleType}
use denote.Param.Send.{IsSend, IsSync, sendable}
use denote.Param.SendFields.{as_row_send, as_row_sync, declared_sync}
use Rattle.std.proofs.Crossing.{crosses}
use Rattle.std.proofs.MapsCrossing as maps
use Rattle.std.proofs.sync.ledger.Book.TheSendSync as ledger_book
use Rattle.std.proofs.sync.ledger.Share.TheSendSync as share
use Rattle.std.specs.declared.sync.ledger.Ledger as ledger
use Rattle.waiting.specs.contracts.waiters.Waiter as Waiter
use Rattle.waiting.specs.contracts.waiters.Waiters as Waiters
use Rattle.waiting.specs.contracts.desk.Desk as Desk
use Rattle.waiting.specs.contracts.hand.Hand as Hand
use Rattle.waiting.specs.contracts.lot.Lot as Lot

pub waiter_send : (C : RattleType) → IsSend C → IsSend (Waiter.the_field C).row
waiter_send C s = search (sendable, crosses) depth 20

pub waiters_send : (C : RattleType) → IsSend C → IsSend (Waiters.the_field C).row
waiters_send C s = search (sendable, crosses, maps.crosses, waiter_send) depth 40

module _ (C A B : RattleType) (a : ledger.Ghosts A.Denot) (b : ledger.Ghosts B.Denot)
    (s : IsSend C) where
  desk_field : IsSend (Desk.the_field C A B a b).row
  desk_field = search (sendable, crosses, waiters_send, ledger_book.the_send, share.the_send) depth
      40

  desk_send : IsSend (Desk.the_row C A B a b)
  desk_send = as_row_send (Desk.the_field C A B a b) desk_field

  pub lot_sync : IsSync (Lot.the_row C A B a b)
  lot_sync = declared_sync (Lot.the_type C A B a b)
      (search (as_row_sync, desk_send, crosses) depth 40, tt)

pub hand_send : (A B : RattleType) (a : ledger.Ghosts A.Denot) (b : ledger.Ghosts B.Denot)
    → IsSend (Hand.the_field A B a b).row
hand_send A B a b = search (sendable, crosses, share.the_send) depth 40

pub ruleset lot_handles = (lot_sync, hand_send)
