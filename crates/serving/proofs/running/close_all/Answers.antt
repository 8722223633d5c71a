use Rattle.std.proofs.Common.{length}
use Rattle.serving.proofs.running.close_all.Goals as goal

pub add_rest-requires : goal.add_rest-requires
add_rest-requires g c = record { room = let room = c.requires.room in room.passes }

pub returns-clause-ends : goal.returns-clause-ends
returns-clause-ends g c =
    let did = c.end_all-failed.ensures in
    record {
      clients = length c.close.result.waiting;
      callers = length c.close-2.result.waiting;
      clients_left = c.close.ensures;
      callers_left = c.close-2.ensures;
      over = did.state.0;
      count = did.state.1;
      left_over = did.state.2;
      net_is = did.state.3;
    }
