-- The words may be shared by threads and a seat may go to another. A crate above cites the ruleset.
use denote.Param.Send.{IsSend, IsSync}
use Rattle.load_words.proofs.words.Loads.TheSendSync as loads
use Rattle.load_words.proofs.words.LoadSeat.TheSendSync as seat
use Rattle.load_words.specs.contracts.words.Loads as Loads
use Rattle.load_words.specs.contracts.words.LoadSeat as LoadSeat

pub loads_send : IsSend Loads.the_row
loads_send = loads.the_send

pub loads_sync : IsSync Loads.the_row
loads_sync = loads.the_sync

pub load_seat_send : IsSend LoadSeat.the_row
load_seat_send = seat.the_send

pub ruleset words_and_seats = (loads_send, loads_sync, load_seat_send)
