use Rattle.std.proofs.Common.{◌≡◌, ◌+◌, List, length, ap, arith, rules, subst}
use Rattle.std.proofs.lemmas.Grind.{common_steps}
use Rattle.std.specs.Vec.Iter.{into_iter_items}
use Rattle.line_base.specs.Dials.{Upstream}
use Rattle.serving.specs.Jobs.{RouterJob}
use Rattle.serving.specs.Parts.{TakesApart}
use Rattle.serving.proofs.Parting.{room_for_one, same_room, takes_first, takes_none}
use Rattle.serving.proofs.taking_back.take_unrun_apart.Goals as goal

pub loop-job-init : goal.loop-job-init
loop-job-init g c =
    let upstream = λ (d : g.row.N-D.Denot). let u : Upstream = g.N.D.Dialer.upstream d in u in
    let same = c.into_iter-job-iterator.ensures.into_iter_gives.0 in
    let count = ap length same in
    record {
      apart = λ end takes. subst
          (λ (xs : List (RouterJob g.row.N-L-P.Denot g.row.J.Denot g.row.N-L.Denot g.row.N-D.Denot
          g.row.C.Denot g.row.K.Denot g.row.N-S.Denot g.row.X.Denot g.row.A.Denot g.row.B.Denot
          g.row.E.Denot g.row.F.Denot g.J.Handling g.J.Naming)).
          TakesApart g.N.L.Listener.state upstream g.N.S.Stop.calls ((xs)) c.args.apart.now end)
          same takes;
      room = λ n room. same_room c.args.apart.now _ _ (omega (arith, count)) room;
    }

pub take_apart-requires-clause-room : goal.take_apart-requires-clause-room
take_apart-requires-clause-room g c κs within =
    let shorter = ap length c.in-Some.ensures.steps.0 in
    let room = c.loop-job.invariant.room 0
    (same_room c.args.apart.now _ _ (omega arith) c.requires.room) in
    room_for_one c.loop-job.apart (length (into_iter_items c.loop-job.job-iterator) + 0)
    (length (into_iter_items c.next.new.self)) (omega (arith, shorter)) room

pub loop-job-preserved : goal.loop-job-preserved
loop-job-preserved g c =
    let upstream = λ (d : g.row.N-D.Denot). let u : Upstream = g.N.D.Dialer.upstream d in u in
    let inv = c.loop-job.invariant in
    let step = c.in-Some.ensures.steps in
    let did = c.take_apart.ensures in
    let shorter = ap length step.0 in
    record {
      apart = takes_first g.N.L.Listener.state upstream g.N.S.Stop.calls
          (c.in-Some.job) _ _ _ _ c.loop-job.apart _ (step.0) did.apart inv.apart;
      room = λ n room.
          did.room _ (same_room c.loop-job.apart _ _ (omega (arith, shorter)) (inv.room n room));
    }

pub returns : goal.returns
returns g c =
    let upstream = λ (d : g.row.N-D.Denot). let u : Upstream = g.N.D.Dialer.upstream d in u in
    let left = into_iter_items c.loop-job.job-iterator in
    let none : length left ≡ 0 = first_of (search rules, grind (arith, common_steps)) in
    let inv = c.loop-job.invariant in
    record {
      room = λ n room. same_room c.loop-job.apart _ _ (omega (arith, none)) (inv.room n room);
      apart = inv.apart c.loop-job.apart
          (takes_none g.N.L.Listener.state upstream g.N.S.Stop.calls _ c.loop-job.apart none);
    }
