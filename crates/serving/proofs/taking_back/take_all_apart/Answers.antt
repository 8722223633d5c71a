use Rattle.std.proofs.Common.{◌≡◌, ◌+◌, List, ℕ, suc, length, ap, sym, subst, map, ◌∙◌}
use Rattle.std.specs.Vec.Iter.{into_iter_items}
use Rattle.workers.specs.declared.accepting.Accepting.{Accepting}
use Rattle.router.proofs.Closing.{map_length}
use Rattle.line_base.specs.Dials.{Upstream}
use Rattle.serving.specs.Jobs.{RouterJob}
use Rattle.serving.specs.Parts.{TakesApart}
use Rattle.serving.proofs.Moving.{more_by_none, more_by_one, nothing_more}
use Rattle.serving.proofs.Parting.{room_for_one, same_room, takes_first, takes_none}
use Rattle.serving.proofs.taking_back.take_all_apart.Goals as goal

pub loop-ended-init : goal.loop-ended-init
loop-ended-init g c =
    let upstream = λ (d : g.row.N-D.Denot). let u : Upstream = g.N.D.Dialer.upstream d in u in
    let same = c.into_iter-ended-iterator.ensures.into_iter_gives.0 in
    let count = ap length same in
    record {
      apart = λ end takes. subst
          (λ (xs : List ((RouterJob g.row.N-L-P.Denot g.row.J.Denot g.row.N-L.Denot g.row.N-D.Denot
          g.row.C.Denot g.row.K.Denot g.row.N-S.Denot g.row.X.Denot g.row.A.Denot g.row.B.Denot
          g.row.E.Denot g.row.F.Denot g.J.Handling g.J.Naming) × Accepting)).
          TakesApart g.N.L.Listener.state upstream g.N.S.Stop.calls
          (map
          (λ (b : (RouterJob g.row.N-L-P.Denot g.row.J.Denot g.row.N-L.Denot g.row.N-D.Denot
          g.row.C.Denot g.row.K.Denot g.row.N-S.Denot g.row.X.Denot g.row.A.Denot g.row.B.Denot
          g.row.E.Denot g.row.F.Denot g.J.Handling g.J.Naming) × Accepting). b.0) (xs))
          c.args.apart.now end) same takes;
      room = λ n room. same_room c.args.apart.now _ _ (ap (λ (k : ℕ). k + n) (sym count)) room;
    }

pub take_apart-requires-clause-room : goal.take_apart-requires-clause-room
take_apart-requires-clause-room g c κs within =
    let shorter : length (into_iter_items c.loop-ended.ended-iterator)
    ≡ suc (length (into_iter_items c.next.new.self)) = ap length c.in-Some.ensures.steps.0 in
    let room = c.loop-ended.invariant.room 0
    (same_room c.args.apart.now _ _ (nothing_more _) c.requires.room) in
    room_for_one c.loop-ended.apart (length (into_iter_items c.loop-ended.ended-iterator) + 0)
    (length (into_iter_items c.next.new.self))
    (sym (nothing_more (length (into_iter_items c.loop-ended.ended-iterator))) ∙ shorter) room

pub loop-ended-preserved : goal.loop-ended-preserved
loop-ended-preserved g c =
    let upstream = λ (d : g.row.N-D.Denot). let u : Upstream = g.N.D.Dialer.upstream d in u in
    let inv = c.loop-ended.invariant in
    let step = c.in-Some.ensures.steps in
    let did = c.take_apart.ensures in
    let shorter : length (into_iter_items c.loop-ended.ended-iterator)
    ≡ suc (length (into_iter_items c.next.new.self)) = ap length step.0 in
    record {
      apart = takes_first g.N.L.Listener.state upstream g.N.S.Stop.calls
          (c.in-Some.ended.0) _ _ _ _ c.loop-ended.apart _
          (ap
          (λ xs.
          map
          (λ (b : (RouterJob g.row.N-L-P.Denot g.row.J.Denot g.row.N-L.Denot g.row.N-D.Denot
          g.row.C.Denot g.row.K.Denot g.row.N-S.Denot g.row.X.Denot g.row.A.Denot g.row.B.Denot
          g.row.E.Denot g.row.F.Denot g.J.Handling g.J.Naming) × Accepting). b.0) xs) step.0)
          did.apart inv.apart;
      room = λ n room.
          did.room _ (same_room c.loop-ended.apart _ _ (more_by_one _ _ n shorter)
          (inv.room n room));
    }

pub returns : goal.returns
returns g c =
    let upstream = λ (d : g.row.N-D.Denot). let u : Upstream = g.N.D.Dialer.upstream d in u in
    let left = into_iter_items c.loop-ended.ended-iterator in
    let none : length left ≡ 0 = sym c.loop-ended.ended-iterator.rest.ok.0
    ∙ c.in-None.ensures.steps.0 in
    let inv = c.loop-ended.invariant in
    record {
      room = λ n room. same_room c.loop-ended.apart _ _ (more_by_none _ n none) (inv.room n room);
      apart = inv.apart c.loop-ended.apart
          (takes_none g.N.L.Listener.state upstream g.N.S.Stop.calls _ c.loop-ended.apart
          (map_length
          (λ (b : (RouterJob g.row.N-L-P.Denot g.row.J.Denot g.row.N-L.Denot g.row.N-D.Denot
          g.row.C.Denot g.row.K.Denot g.row.N-S.Denot g.row.X.Denot g.row.A.Denot g.row.B.Denot
          g.row.E.Denot g.row.F.Denot g.J.Handling g.J.Naming) × Accepting). b.0) left ∙ none));
    }
