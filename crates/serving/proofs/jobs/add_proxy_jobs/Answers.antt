use Rattle.rand_core.specs.Pcg32Seed.{pcg32_seed}
use Rattle.rand_pcg.specs.Pcg.{pcg64_of_seed}
use Rattle.std.proofs.Common.{◌≡◌, ◌+◌, ◌++◌, ◌%◌, ◌^◌, ℕ, suc, refl, sym, subst, ap, ◌∙◌, length}
use Rattle.std.proofs.Common.{List, vec_len}
use Rattle.std.specs.List.{AllZip}
use Rattle.std.specs.Vec.Iter.{into_iter_items}
use Rattle.std.specs.Prelude.{Option}
use Rattle.line_base.specs.Nets.{IsNewLog, Networking, Returns, after_stopper}
use Rattle.serving.specs.declared.policy.Policy.{Policy}
use Rattle.linker_config.specs.declared.config.Port.{Port}
use Rattle.line_base.specs.Dials.{Upstream}
use Rattle.serving.specs.Jobs.{IsPosted, RouterJob, pass_of, recorder_of, recorders_of_jobs}
use Rattle.serving.specs.Jobs.{scraper_of, scrapers_of_jobs}
use Rattle.serving.specs.Posts.{client_post, posts_at}
use Rattle.serving.specs.Returning.{with_stops}
use Rattle.serving.specs.Running.{AreNewFrom}
use Rattle.serving.specs.Hands.{AreNewHands}
use Rattle.serving.proofs.Chains.{free_rest, new_first, new_rest}
use Rattle.serving.proofs.Moving.{as_few, both_fewer, fit_behind, last_stop, moved_all, none_behind}
use Rattle.serving.proofs.Moving.{none_moved, one_fits, one_moved, one_of_same, one_there}
use Rattle.serving.proofs.Moving.{room_there, still_enough, still_same}
use Rattle.serving.proofs.Posting.{next_new, stops_moved}
use Rattle.serving.proofs.Sharing.{as_many}
use Rattle.serving.proofs.Zipping.{begins_with, handed, lists_moved, lists_same, none_posted}
use Rattle.serving.proofs.Zipping.{nothing_left, one_posted}
use Rattle.serving.proofs.jobs.add_proxy_jobs.Goals as goal

pub loop-listener-init : goal.loop-listener-init
loop-listener-init g c =
    let upstream = λ (d : g.row.N-D.Denot). let u : Upstream = g.N.D.Dialer.upstream d in u in
    let R = λ (policy : Policy) (moments : Option (List ℕ)).
    IsPosted {J = g.row.J.Denot} {D = g.row.N-D.Denot} {K = g.row.K.Denot} {X = g.row.X.Denot}
    {A = g.row.A.Denot} {B = g.row.B.Denot} {E = g.row.E.Denot} {F = g.row.F.Denot}
    {h = g.J.Handling} {g = g.J.Naming} g.N.L.Listener.state upstream g.C.Clock.to_come
    g.N.S.Stop.calls policy moments (g.N.Net.state c.args.net.now).told in
    let whole = c.into_iter-listener-iterator.ensures.into_iter_gives.0 in
    let many : length (into_iter_items c.into_iter-listener-iterator.result)
    ≡ length c.args.listeners.items = ap length whole in
    let rooms = ap length c.into_iter-rooms.ensures.rest in
    let recorders = ap length c.into_iter-recorders.ensures.rest in
    let hands = ap length c.into_iter-hands.ensures.rest in
    let new = λ (port : Port)
    (n : AreNewFrom g.N.L.Listener.state (g.N.Net.state c.args.net.now).told port 0
    c.args.listeners.items).
    subst (AreNewFrom g.N.L.Listener.state (g.N.Net.state c.args.net.now).told port 0)
    (sym whole) n in
    record {
      passes = refl;
      count = ap (λ (n : ℕ). vec_len c.args.jobs.now + n) many;
      rest = ap (λ (n : ℕ). length (into_iter_items c.args.passes.now) + n) (sym many);
      enough = as_few _ _ _ many c.requires.enough;
      rooms = as_many _ _ _ rooms (as_few _ _ _ many c.requires.rooms);
      recorders = ap (λ (ks : List g.row.K.Denot). recorders_of_jobs c.args.jobs.now.items ++ ks)
          c.into_iter-recorders.ensures.rest;
      recorders_left = recorders ∙ (c.requires.recorders ∙ sym many);
      scrapers = refl;
      hands = as_many _ _ _ hands (as_few _ _ _ many c.requires.hands);
      new_hands = subst AreNewHands (sym c.into_iter-hands.ensures.rest) c.requires.new_hands;
      room = fit_behind _ _ _ _ many c.requires.room;
      capacity = refl;
      free = c.requires.free;
      place = none_moved _ _ _ refl many;
      new = new c.args.setup.now.site.now.server c.requires.new;
      posted = λ ps all. none_posted
          (R c.args.setup.now.site.now.policy (g.C.Clock.of_fork c.args.clock.now))
          (client_post c.args.setup.now.site.now) ps c.args.jobs.now.items all;
      told = refl;
      stops = ap (λ (n : ℕ). with_stops n (g.N.Net.state c.args.net.now)) many;
      kept = refl;
    }

pub loop-listener-preserved : goal.loop-listener-preserved
loop-listener-preserved g c =
    let upstream = λ (d : g.row.N-D.Denot). let u : Upstream = g.N.D.Dialer.upstream d in u in
    let R = λ (policy : Policy) (moments : Option (List ℕ)).
    IsPosted {J = g.row.J.Denot} {D = g.row.N-D.Denot} {K = g.row.K.Denot} {X = g.row.X.Denot}
    {A = g.row.A.Denot} {B = g.row.B.Denot} {E = g.row.E.Denot} {F = g.row.F.Denot}
    {h = g.J.Handling} {g = g.J.Naming} g.N.L.Listener.state upstream g.C.Clock.to_come
    g.N.S.Stop.calls policy moments (g.N.Net.state c.args.net.now).told in
    let inv = c.loop-listener.invariant in
    let cut = c.in-Some.ensures.steps.0 in
    let shorter : length (into_iter_items c.loop-listener.listener-iterator)
    ≡ suc (length (into_iter_items c.next.new.self)) = ap length cut in
    let taken = c.take_next-pass.ensures in
    let fewer : length (into_iter_items c.loop-listener.passes)
    ≡ suc (length (into_iter_items c.take_next-pass.new.items)) = ap length taken in
    let fewer_rooms : length (into_iter_items c.loop-listener.rooms)
    ≡ suc (length (into_iter_items c.take_next-room.new.items)) =
    ap length c.take_next-room.ensures in
    let fewer_recorders : length (into_iter_items c.loop-listener.recorders)
    ≡ suc (length (into_iter_items c.take_next-recorder.new.items)) =
    ap length c.take_next-recorder.ensures in
    let fewer_hands : length (into_iter_items c.loop-listener.hands)
    ≡ suc (length (into_iter_items c.take_next-hand.new.items)) =
    ap length c.take_next-hand.ensures in
    let pushed = c.push_reserved.ensures in
    let told = (g.N.Net.state c.args.net.now).told in
    let next = next_new g.N.L.Listener.state told c.args.setup.now.site.now.server
    c.loop-listener.number (c.loop-listener.number + 1) _ _ c.in-Some.listener refl cut inv.new in
    let same = ap (λ (n : Networking g.row.N-L-P.Denot). n.told) c.dialer.ensures.kept.0
    ∙ inv.told in
    record {
      passes =
          handed (λ (j : RouterJob g.row.N-L-P.Denot g.row.J.Denot g.row.N-L.Denot g.row.N-D.Denot
          g.row.C.Denot g.row.K.Denot g.row.N-S.Denot g.row.X.Denot g.row.A.Denot g.row.B.Denot
          g.row.E.Denot g.row.F.Denot g.J.Handling g.J.Naming). pass_of j) _ _ _ _ _ _ pushed.items
          (begins_with _ _ _ _ c.of.ensures.pass taken) inv.passes;
      count = one_moved (vec_len c.push_reserved.new.self) _ _ _ _ pushed.len shorter inv.count;
      rest = both_fewer _ _ _ _ _ _ fewer shorter inv.rest;
      enough = still_enough _ _ _ _ fewer shorter inv.enough;
      rooms = still_enough _ _ _ _ fewer_rooms shorter inv.rooms;
      recorders = lists_moved
          (λ (j : RouterJob g.row.N-L-P.Denot g.row.J.Denot g.row.N-L.Denot g.row.N-D.Denot
          g.row.C.Denot g.row.K.Denot g.row.N-S.Denot g.row.X.Denot g.row.A.Denot g.row.B.Denot
          g.row.E.Denot g.row.F.Denot g.J.Handling g.J.Naming). recorder_of j) recorders_of_jobs
          refl (λ j js. refl) _ _ _ c.take_next-recorder.result _ _ _ pushed.items refl
          c.take_next-recorder.ensures inv.recorders;
      recorders_left = still_same _ _ _ _ fewer_recorders shorter inv.recorders_left;
      scrapers = lists_same
          (λ (j : RouterJob g.row.N-L-P.Denot g.row.J.Denot g.row.N-L.Denot g.row.N-D.Denot
          g.row.C.Denot g.row.K.Denot g.row.N-S.Denot g.row.X.Denot g.row.A.Denot g.row.B.Denot
          g.row.E.Denot g.row.F.Denot g.J.Handling g.J.Naming). scraper_of j) scrapers_of_jobs refl
          (λ j js. refl) _ _ _ pushed.items refl ∙ inv.scrapers;
      hands = still_enough _ _ _ _ fewer_hands shorter inv.hands;
      new_hands = new_rest _ _ c.take_next-hand.result c.take_next-hand.ensures inv.new_hands;
      room = one_fits (vec_len c.push_reserved.new.self) _ _ _ _ _ pushed.len pushed.capacity
          shorter inv.room;
      capacity = pushed.capacity ∙ inv.capacity;
      free = free_rest _ _ c.take_next-pass.result taken inv.free;
      place = one_moved (c.loop-listener.number + 1) c.loop-listener.number _ _ _ refl shorter
          inv.place;
      new = next.1;
      posted = λ ps all.
          one_posted (R c.args.setup.now.site.now.policy (g.C.Clock.of_fork c.args.clock.now))
          (client_post c.args.setup.now.site.now) c.loop-listener.number
          (c.loop-listener.number + 1) ps _ _ _ refl pushed.items
          (inv.posted ps all)
          (record {
            listener = next.0;
            log = rw c.of.ensures.dialer
                (subst (λ (t : Option (Returns g.row.N-L-P.Denot)).
                IsNewLog t (g.N.D.Dialer.upstream c.dialer.result).log) inv.told
                c.dialer.ensures.log);
            hung = rw c.of.ensures.dialer c.dialer.ensures.closed;
            none_kept = rw c.of.ensures.dialer c.dialer.ensures.none_kept;
            pool = rw c.of.ensures.dialer (c.dialer.ensures.pool ∙ c.pool_by.ensures);
            clock = rw c.of.ensures.clock c.fork.ensures.0;
            words = c.of.ensures.words
                ∙ (c.seed_from_u64.ensures
                ∙ ap (λ (n : ℕ). pcg64_of_seed
                (pcg32_seed 32 ((c.args.setup.now.site.now.seed + n) % 2 ^ 64))) c.from.ensures);
            policy_is = refl;
            lacked = refl;
            stops = c.stopper.ensures.calls;
            hand = new_first _ _ c.take_next-hand.result c.take_next-hand.ensures inv.new_hands;
          });
      told = ap (λ (n : Networking g.row.N-L-P.Denot). n.told) c.stopper.ensures.state ∙ same;
      stops = stops_moved _ _ c.in-Some.listener (g.N.Net.state c.loop-listener.net) _ _ cut
          (c.stopper.ensures.state ∙ ap after_stopper c.dialer.ensures.kept.0) inv.stops;
      kept = c.stopper.ensures.kept ∙ (c.dialer.ensures.kept.1 ∙ inv.kept);
    }

pub take_next-pass-requires : goal.take_next-pass-requires
take_next-pass-requires g c =
    let inv = c.loop-listener.invariant in
    let shorter : length (into_iter_items c.loop-listener.listener-iterator)
    ≡ suc (length (into_iter_items c.next.new.self)) = ap length c.in-Some.ensures.steps.0 in
    one_there _ _ _ shorter inv.enough

pub take_next-room-requires : goal.take_next-room-requires
take_next-room-requires g c =
    let inv = c.loop-listener.invariant in
    let shorter : length (into_iter_items c.loop-listener.listener-iterator)
    ≡ suc (length (into_iter_items c.next.new.self)) = ap length c.in-Some.ensures.steps.0 in
    one_there _ _ _ shorter inv.rooms

pub take_next-recorder-requires : goal.take_next-recorder-requires
take_next-recorder-requires g c =
    let inv = c.loop-listener.invariant in
    let shorter : length (into_iter_items c.loop-listener.listener-iterator)
    ≡ suc (length (into_iter_items c.next.new.self)) = ap length c.in-Some.ensures.steps.0 in
    one_of_same _ _ _ shorter inv.recorders_left

pub take_next-hand-requires : goal.take_next-hand-requires
take_next-hand-requires g c =
    let inv = c.loop-listener.invariant in
    let shorter : length (into_iter_items c.loop-listener.listener-iterator)
    ≡ suc (length (into_iter_items c.next.new.self)) = ap length c.in-Some.ensures.steps.0 in
    one_there _ _ _ shorter inv.hands

pub returns-clause-posted : goal.returns-clause-posted
returns-clause-posted g c = λ ps all.
    let upstream = λ (d : g.row.N-D.Denot). let u : Upstream = g.N.D.Dialer.upstream d in u in
    let R = λ (policy : Policy) (moments : Option (List ℕ)).
    IsPosted {J = g.row.J.Denot} {D = g.row.N-D.Denot} {K = g.row.K.Denot} {X = g.row.X.Denot}
    {A = g.row.A.Denot} {B = g.row.B.Denot} {E = g.row.E.Denot} {F = g.row.F.Denot}
    {h = g.J.Handling} {g = g.J.Naming} g.N.L.Listener.state upstream g.C.Clock.to_come
    g.N.S.Stop.calls policy moments (g.N.Net.state c.args.net.now).told in
    let inv = c.loop-listener.invariant in
    let none : length (into_iter_items c.loop-listener.listener-iterator) ≡ 0 =
    sym c.loop-listener.listener-iterator.rest.ok.0 ∙ c.in-None.ensures.steps.0 in
    let same : c.loop-listener.number ≡ length c.args.listeners.items =
    moved_all _ _ _ none inv.place in
    subst (λ (k : ℕ). AllZip
    (R c.args.setup.now.site.now.policy (g.C.Clock.of_fork c.args.clock.now))
    (ps ++ posts_at (client_post c.args.setup.now.site.now) k) c.loop-listener.jobs.items) same
    (inv.posted ps all)

pub returns-clause-recorders : goal.returns-clause-recorders
returns-clause-recorders g c =
    let inv = c.loop-listener.invariant in
    let none : length (into_iter_items c.loop-listener.listener-iterator) ≡ 0 =
    sym c.loop-listener.listener-iterator.rest.ok.0 ∙ c.in-None.ensures.steps.0 in
    nothing_left (recorders_of_jobs c.loop-listener.jobs.items)
    (into_iter_items c.loop-listener.recorders) _
    (inv.recorders_left ∙ none) inv.recorders

pub push_reserved-requires : goal.push_reserved-requires
push_reserved-requires g c =
    let shorter : length (into_iter_items c.loop-listener.listener-iterator)
    ≡ suc (length (into_iter_items c.next.new.self)) = ap length c.in-Some.ensures.steps.0 in
    room_there _ _ _ _ shorter c.loop-listener.invariant.room

pub returns-clause-count : goal.returns-clause-count
returns-clause-count g c =
    let none : length (into_iter_items c.loop-listener.listener-iterator) ≡ 0 =
    sym c.loop-listener.listener-iterator.rest.ok.0 ∙ c.in-None.ensures.steps.0 in
    moved_all _ _ _ none c.loop-listener.invariant.count

pub returns-clause-rest : goal.returns-clause-rest
returns-clause-rest g c =
    let none : length (into_iter_items c.loop-listener.listener-iterator) ≡ 0 =
    sym c.loop-listener.listener-iterator.rest.ok.0 ∙ c.in-None.ensures.steps.0 in
    none_behind _ _ _ none c.loop-listener.invariant.rest

pub returns-clause-stops : goal.returns-clause-stops
returns-clause-stops g c =
    let none : length (into_iter_items c.loop-listener.listener-iterator) ≡ 0 =
    sym c.loop-listener.listener-iterator.rest.ok.0 ∙ c.in-None.ensures.steps.0 in
    last_stop (into_iter_items c.loop-listener.listener-iterator) _ _ none
    c.loop-listener.invariant.stops
