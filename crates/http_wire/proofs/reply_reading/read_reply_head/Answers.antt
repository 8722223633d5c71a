use Rattle.std.proofs.Common.{rules, List, ℕ, [], refl, sym, ap, arith, subst, ◌∙◌, length-append}
use Rattle.std.proofs.Common.{length}
use Rattle.line_base.proofs.Links.{links_on, links_same, still_open}
use Rattle.http_wire.specs.Reading.{is_read_fault, raised_at}
use Rattle.http_wire.specs.Replies.{Tracks}
use Rattle.http_wire.proofs.Receiving.{looked_reply, nothing_yet, one_more, quiet_after}
use Rattle.http_wire.proofs.Receiving.{stopped_reply, tracked_open}
use Rattle.http_wire.proofs.Replying.{decided_reply, tracks_first}
use Rattle.http_wire.proofs.Sound.{sound_reply}
use Rattle.http_wire.proofs.reply_reading.read_reply_head.Goals as goal

pub loop-watch-init : goal.loop-watch-init
loop-watch-init g c = record {
  read = nothing_yet _ _ c.args.rest.now;
  tracks = subst (λ (bytes : List ℕ). Tracks bytes c.follow.new.self.place) c.kept.ensures
      (c.follow.ensures [] (subst (Tracks []) (sym c.new-watch.ensures) tracks_first));
  stays = links_same (g.D.Dialer.upstream c.args.dialer.now);
  faults = refl;
}

pub receive_once-requires-clause-open_ : goal.receive_once-requires-clause-open_
receive_once-requires-clause-open_ g c = still_open c.loop-watch.invariant.stays c.requires

pub receive_once-requires-clause-tracks : goal.receive_once-requires-clause-tracks
receive_once-requires-clause-tracks g c = c.loop-watch.invariant.tracks

pub loop-watch-smaller : goal.loop-watch-smaller
loop-watch-smaller g c =
    let got = c.in-Ok.ensures.bytes in
    let open_ = c.is_settled.ensures.open_ (search rules) in
    omega (arith, ap length got.grown, length-append c.loop-watch.rest got.piece, got.some, open_.1)

pub loop-watch-preserved : goal.loop-watch-preserved
loop-watch-preserved g c =
    let before = c.loop-watch.invariant in
    let open_ = c.is_settled.ensures.open_ (search rules) in
    record {
      read = one_more _ _ _ _ _ _ c.args.rest.now c.loop-watch.rest c.receive_once.new.rest
          before.read
          (tracked_open c.loop-watch.rest c.loop-watch.watch.place open_.1 open_.0 before.tracks)
          c.in-Ok.ensures.bytes;
      tracks = c.in-Ok.ensures.tracks;
      stays = links_on before.stays c.receive_once.ensures.stays;
      faults = c.in-Ok.ensures.fault ∙ before.faults;
    }

pub returns-in-Err-clause-head : goal.returns-in-Err-clause-head
returns-in-Err-clause-head g c =
    let before = c.loop-watch.invariant in
    let open_ = c.is_settled.ensures.open_ (search rules) in
    stopped_reply _ _ _ _ _ _ c.args.rest.now c.loop-watch.rest c.receive_once.new.rest
    c.in-Err.end before.read
    (tracked_open c.loop-watch.rest c.loop-watch.watch.place open_.1 open_.0 before.tracks)
    c.in-Err.ensures.bytes

pub returns-in-Err-clause-fault : goal.returns-in-Err-clause-fault
returns-in-Err-clause-fault g c =
    c.in-Err.ensures.fault ∙ ap (λ (n : ℕ). raised_at (is_read_fault c.in-Err.end) n)
    c.loop-watch.invariant.faults

pub returns-in-Err-clause-faults : goal.returns-in-Err-clause-faults
returns-in-Err-clause-faults g c = omega
    (arith, c.loop-watch.invariant.faults, c.receive_once.ensures.faults)

pub returns-in-Err-clause-stays : goal.returns-in-Err-clause-stays
returns-in-Err-clause-stays g c =
    links_on c.loop-watch.invariant.stays c.receive_once.ensures.stays

pub answer-requires : goal.answer-requires
answer-requires g c few =
    decided_reply c.loop-watch.rest c.loop-watch.watch.place
    (c.is_settled.ensures.settled (search rules) few) c.loop-watch.invariant.tracks

pub returns-clause-head : goal.returns-clause-head
returns-clause-head g c =
    looked_reply _ _ _ _ c.args.rest.now c.loop-watch.rest c.answer.new.rest c.answer.result
    c.loop-watch.invariant.read c.answer.ensures

pub returns-clause-sound : goal.returns-clause-sound
returns-clause-sound g c = sound_reply c.loop-watch.rest c.answer.new.rest c.answer.result
    c.answer.ensures

pub returns-clause-fault : goal.returns-clause-fault
returns-clause-fault g c = quiet_after _ _ c.loop-watch.rest c.answer.new.rest c.answer.result
    c.loop-watch.invariant.faults c.answer.ensures

pub returns-clause-faults : goal.returns-clause-faults
returns-clause-faults g c = omega (arith, c.loop-watch.invariant.faults)

pub returns-clause-stays : goal.returns-clause-stays
returns-clause-stays g c = c.loop-watch.invariant.stays
