use Rattle.serving.proofs.Handing.{nobody_left, none_here}
use Rattle.serving.proofs.lots.Lots.open.Goals as goal

pub end-requires : goal.end-requires
end-requires g c =
    none_here c.close.result.waiting
    (nobody_left c.in_ok-for_clients.client_hands.items _ c.in_ok-for_clients.ensures.new
    c.close.ensures)
