use Rattle.std.proofs.Common.{refl}
use Rattle.line_base.specs.Dials.{Upstream}
use Rattle.serving.proofs.Taking.{room_as_before, room_behind_one, takes_api, takes_proxy}
use Rattle.serving.proofs.taking_back.take_apart.Goals as goal

pub returns-in-Proxy : goal.returns-in-Proxy
returns-in-Proxy g c =
    let upstream = λ (d : g.row.N-D.Denot). let u : Upstream = g.N.D.Dialer.upstream d in u in
    let parts = c.push_reserved.ensures in
    let passes = c.push_reserved-in-Proxy.ensures in
    let recorders = c.push_reserved-in-Proxy-2.ensures in
    let hands = c.push_reserved-in-Proxy-3.ensures in
    record {
      apart = takes_proxy g.N.L.Listener.state upstream g.N.S.Stop.calls c.args.job c.in-Proxy.job
          c.args.apart.now _ c.into_parts-pass.result.dialer c.into_parts-pass.result.pass
          c.in-Proxy.is
          c.into_parts-pass.ensures.dialer c.into_parts-pass.ensures.pass parts.items passes.items
          recorders.items hands.items refl refl;
      room = λ n room. record {
        parts = room_behind_one _ _ _ _ n parts.len parts.capacity room.parts;
        passes = room_behind_one _ _ _ _ n passes.len passes.capacity room.passes;
        recorders = room_behind_one _ _ _ _ n recorders.len recorders.capacity room.recorders;
        client_hands = room_behind_one _ _ _ _ n hands.len hands.capacity room.client_hands;
        caller_hands = room_as_before _ _ n room.caller_hands;
      };
    }

pub returns-in-Api : goal.returns-in-Api
returns-in-Api g c =
    let upstream = λ (d : g.row.N-D.Denot). let u : Upstream = g.N.D.Dialer.upstream d in u in
    let parts = c.push_reserved-in-Api.ensures in
    let passes = c.push_reserved-in-Api-2.ensures in
    let hands = c.push_reserved-in-Api-3.ensures in
    record {
      apart = takes_api g.N.L.Listener.state upstream g.N.S.Stop.calls c.args.job c.in-Api.job
          c.args.apart.now _ c.in-Api.is parts.items passes.items refl refl hands.items refl;
      room = λ n room. record {
        parts = room_behind_one _ _ _ _ n parts.len parts.capacity room.parts;
        passes = room_behind_one _ _ _ _ n passes.len passes.capacity room.passes;
        recorders = room_as_before _ _ n room.recorders;
        client_hands = room_as_before _ _ n room.client_hands;
        caller_hands = room_behind_one _ _ _ _ n hands.len hands.capacity room.caller_hands;
      };
    }
