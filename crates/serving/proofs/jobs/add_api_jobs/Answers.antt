use Rattle.std.proofs.Common.{◌≡◌, ◌+◌, ◌++◌, ℕ, suc, refl, sym, subst, ap, ◌∙◌, length, List}
use Rattle.std.proofs.Common.{vec_len}
use Rattle.std.specs.List.{AllZip}
use Rattle.std.specs.Prelude.{Option}
use Rattle.std.specs.Vec.Iter.{into_iter_items}
use Rattle.serving.specs.declared.policy.Policy.{Policy}
use Rattle.linker_config.specs.declared.config.Port.{Port}
use Rattle.line_base.specs.Dials.{Upstream}
use Rattle.serving.specs.Jobs.{IsPosted, RouterJob, pass_of, recorder_of, recorders_of_jobs}
use Rattle.serving.specs.Jobs.{scraper_of, scrapers_of_jobs}
use Rattle.serving.specs.Posts.{interface_post, posts_at}
use Rattle.serving.specs.Returning.{with_stops}
use Rattle.serving.specs.Running.{AreNewFrom}
use Rattle.serving.proofs.Chains.{free_rest, new_first, new_rest}
use Rattle.serving.proofs.Moving.{as_few, both_fewer, fit_behind, last_stop, moved_all, none_behind}
use Rattle.serving.proofs.Moving.{none_moved, one_fits, one_moved, one_there, room_there}
use Rattle.serving.proofs.Moving.{still_enough}
use Rattle.serving.proofs.Posting.{next_new, stops_moved}
use Rattle.serving.proofs.Zipping.{handed, lists_moved, lists_same, none_posted, one_posted}
use Rattle.serving.proofs.jobs.add_api_jobs.Goals as goal

pub loop-listener-init : goal.loop-listener-init
loop-listener-init g c =
    let upstream = λ (d : g.row.N-D.Denot). let u : Upstream = g.N.D.Dialer.upstream d in u in
    let R = λ (policy : Policy) (moments : Option (List ℕ)).
    IsPosted {J = g.row.J.Denot} {D = g.row.N-D.Denot} {K = g.row.K.Denot} {X = g.row.X.Denot}
    {A = g.row.A.Denot} {B = g.row.B.Denot} {E = g.row.E.Denot} {F = g.row.F.Denot}
    {h = g.J.Handling} {g = g.J.Naming} g.N.L.Listener.state upstream g.C.Clock.to_come
    g.N.S.Stop.calls policy moments (g.N.Net.state c.args.net.now).told in
    let whole = c.into_iter-listener-iterator.ensures.into_iter_gives.0 in
    let many : length (into_iter_items c.into_iter-listener-iterator.result)
    ≡ length c.args.interface.listeners.items = ap length whole in
    let new = λ (port : Port)
    (n : AreNewFrom g.N.L.Listener.state (g.N.Net.state c.args.net.now).told port 0
    c.args.interface.listeners.items).
    subst (AreNewFrom g.N.L.Listener.state (g.N.Net.state c.args.net.now).told port 0)
    (sym whole) n in
    record {
      passes = refl;
      count = ap (λ (n : ℕ). vec_len c.args.jobs.now + n) many;
      rest = ap (λ (n : ℕ). length (into_iter_items c.args.passes.now) + n) (sym many);
      enough = as_few _ _ _ many c.requires.enough;
      hands = ap (λ (n : ℕ). length (into_iter_items c.args.hands.now) + n) (sym many);
      enough_hands = as_few _ _ _ many c.requires.hands;
      new_hands = c.requires.new_hands;
      scrapers = ap (λ (n : ℕ). length (into_iter_items c.args.scrapers.now) + n) (sym many);
      enough_scrapers = as_few _ _ _ many c.requires.scrapers;
      recorders = refl;
      scraped = refl;
      room = fit_behind _ _ _ _ many c.requires.room;
      capacity = refl;
      free = c.requires.free;
      posted = (
        0,
        none_moved 0 _ _ refl many,
        new,
        λ port n policy moments ps all. none_posted (R policy moments)
            (interface_post c.args.interface.which port) ps c.args.jobs.now.items all,
      );
      stops = ap (λ (n : ℕ). with_stops n (g.N.Net.state c.args.net.now)) many;
      kept = refl;
    }

pub loop-listener-preserved : goal.loop-listener-preserved
loop-listener-preserved g c =
    let upstream = λ (d : g.row.N-D.Denot). let u : Upstream = g.N.D.Dialer.upstream d in u in
    let R = λ (policy : Policy) (moments : Option (List ℕ)).
    IsPosted {J = g.row.J.Denot} {D = g.row.N-D.Denot} {K = g.row.K.Denot} {X = g.row.X.Denot}
    {A = g.row.A.Denot} {B = g.row.B.Denot} {E = g.row.E.Denot} {F = g.row.F.Denot}
    {h = g.J.Handling} {g = g.J.Naming} g.N.L.Listener.state upstream g.C.Clock.to_come
    g.N.S.Stop.calls policy moments (g.N.Net.state c.args.net.now).told in
    let inv = c.loop-listener.invariant in
    let cut = c.in-Some.ensures.steps.0 in
    let shorter : length (into_iter_items c.loop-listener.listener-iterator)
    ≡ suc (length (into_iter_items c.next.new.self)) = ap length cut in
    let taken = c.take_next-pass.ensures in
    let fewer : length (into_iter_items c.loop-listener.passes)
    ≡ suc (length (into_iter_items c.take_next-pass.new.items)) = ap length taken in
    let taken_hand = c.take_next-hand.ensures in
    let fewer_hands : length (into_iter_items c.loop-listener.hands)
    ≡ suc (length (into_iter_items c.take_next-hand.new.items)) = ap length taken_hand in
    let fewer_scrapers : length (into_iter_items c.loop-listener.scrapers)
    ≡ suc (length (into_iter_items c.take_next-scraper.new.items)) =
    ap length c.take_next-scraper.ensures in
    let pushed = c.push_reserved.ensures in
    let told = (g.N.Net.state c.args.net.now).told in
    let before = inv.posted in
    record {
      passes =
          handed (λ (j : RouterJob g.row.N-L-P.Denot g.row.J.Denot g.row.N-L.Denot g.row.N-D.Denot
          g.row.C.Denot g.row.K.Denot g.row.N-S.Denot g.row.X.Denot g.row.A.Denot g.row.B.Denot
          g.row.E.Denot g.row.F.Denot g.J.Handling g.J.Naming). pass_of j) _ _ _ _ _ _ pushed.items
          taken inv.passes;
      count = one_moved (vec_len c.push_reserved.new.self) _ _ _ _ pushed.len shorter inv.count;
      rest = both_fewer _ _ _ _ _ _ fewer shorter inv.rest;
      enough = still_enough _ _ _ _ fewer shorter inv.enough;
      hands = both_fewer _ _ _ _ _ _ fewer_hands shorter inv.hands;
      enough_hands = still_enough _ _ _ _ fewer_hands shorter inv.enough_hands;
      new_hands = new_rest _ _ c.take_next-hand.result taken_hand inv.new_hands;
      scrapers = both_fewer _ _ _ _ _ _ fewer_scrapers shorter inv.scrapers;
      enough_scrapers = still_enough _ _ _ _ fewer_scrapers shorter inv.enough_scrapers;
      recorders = lists_same
          (λ (j : RouterJob g.row.N-L-P.Denot g.row.J.Denot g.row.N-L.Denot g.row.N-D.Denot
          g.row.C.Denot g.row.K.Denot g.row.N-S.Denot g.row.X.Denot g.row.A.Denot g.row.B.Denot
          g.row.E.Denot g.row.F.Denot g.J.Handling g.J.Naming). recorder_of j) recorders_of_jobs
          refl (λ j js. refl) _ _ _ pushed.items refl ∙ inv.recorders;
      scraped = lists_moved
          (λ (j : RouterJob g.row.N-L-P.Denot g.row.J.Denot g.row.N-L.Denot g.row.N-D.Denot
          g.row.C.Denot g.row.K.Denot g.row.N-S.Denot g.row.X.Denot g.row.A.Denot g.row.B.Denot
          g.row.E.Denot g.row.F.Denot g.J.Handling g.J.Naming). scraper_of j) scrapers_of_jobs refl
          (λ j js. refl) _ _ _ c.take_next-scraper.result _ _ _ pushed.items refl
          c.take_next-scraper.ensures inv.scraped;
      room = one_fits (vec_len c.push_reserved.new.self) _ _ _ _ _ pushed.len pushed.capacity
          shorter inv.room;
      capacity = pushed.capacity ∙ inv.capacity;
      free = free_rest _ _ c.take_next-pass.result taken inv.free;
      posted = (
        before.0 + 1,
        one_moved (before.0 + 1) before.0 _ _ _ refl shorter before.1,
        λ port n. let next = next_new g.N.L.Listener.state told port before.0
            (before.0 + 1) _ _ c.in-Some.listener refl cut (before.2 port n) in next.1,
        λ port n policy moments ps all.
            let next = next_new g.N.L.Listener.state told port before.0
            (before.0 + 1) _ _ c.in-Some.listener refl cut (before.2 port n) in
            one_posted (R policy moments) (interface_post c.args.interface.which port) before.0
            (before.0 + 1) ps _ _ _ refl pushed.items (before.3 port n policy moments ps all)
            (record {
              listener = next.0;
              which_is = refl;
              lacked = refl;
              stops =
                  c.stopper.ensures.calls;
              hand = new_first _ _ c.take_next-hand.result taken_hand inv.new_hands;
            }),
      );
      stops = stops_moved _ _ c.in-Some.listener (g.N.Net.state c.loop-listener.net) _ _ cut
          c.stopper.ensures.state inv.stops;
      kept = c.stopper.ensures.kept ∙ inv.kept;
    }

pub take_next-pass-requires : goal.take_next-pass-requires
take_next-pass-requires g c =
    let inv = c.loop-listener.invariant in
    let shorter : length (into_iter_items c.loop-listener.listener-iterator)
    ≡ suc (length (into_iter_items c.next.new.self)) = ap length c.in-Some.ensures.steps.0 in
    one_there _ _ _ shorter inv.enough

pub take_next-scraper-requires : goal.take_next-scraper-requires
take_next-scraper-requires g c =
    let inv = c.loop-listener.invariant in
    let shorter : length (into_iter_items c.loop-listener.listener-iterator)
    ≡ suc (length (into_iter_items c.next.new.self)) = ap length c.in-Some.ensures.steps.0 in
    one_there _ _ _ shorter inv.enough_scrapers

pub take_next-hand-requires : goal.take_next-hand-requires
take_next-hand-requires g c =
    let inv = c.loop-listener.invariant in
    let shorter : length (into_iter_items c.loop-listener.listener-iterator)
    ≡ suc (length (into_iter_items c.next.new.self)) = ap length c.in-Some.ensures.steps.0 in
    one_there _ _ _ shorter inv.enough_hands

pub returns-clause-posted : goal.returns-clause-posted
returns-clause-posted g c = λ port n policy moments ps all.
    let upstream = λ (d : g.row.N-D.Denot). let u : Upstream = g.N.D.Dialer.upstream d in u in
    let R = λ (policy : Policy) (moments : Option (List ℕ)).
    IsPosted {J = g.row.J.Denot} {D = g.row.N-D.Denot} {K = g.row.K.Denot} {X = g.row.X.Denot}
    {A = g.row.A.Denot} {B = g.row.B.Denot} {E = g.row.E.Denot} {F = g.row.F.Denot}
    {h = g.J.Handling} {g = g.J.Naming} g.N.L.Listener.state upstream g.C.Clock.to_come
    g.N.S.Stop.calls policy moments (g.N.Net.state c.args.net.now).told in
    let before = c.loop-listener.invariant.posted in
    let none : length (into_iter_items c.loop-listener.listener-iterator) ≡ 0 =
    sym c.loop-listener.listener-iterator.rest.ok.0 ∙ c.in-None.ensures.steps.0 in
    let same : before.0 ≡ length c.args.interface.listeners.items =
    moved_all before.0 _ _ none before.1 in
    subst (λ (k : ℕ). AllZip (R policy moments)
    (ps ++ posts_at (interface_post c.args.interface.which port) k) c.loop-listener.jobs.items)
    same (before.3 port n policy moments ps all)

pub push_reserved-requires : goal.push_reserved-requires
push_reserved-requires g c =
    let shorter : length (into_iter_items c.loop-listener.listener-iterator)
    ≡ suc (length (into_iter_items c.next.new.self)) = ap length c.in-Some.ensures.steps.0 in
    room_there _ _ _ _ shorter c.loop-listener.invariant.room

pub returns-clause-count : goal.returns-clause-count
returns-clause-count g c =
    let none : length (into_iter_items c.loop-listener.listener-iterator) ≡ 0 =
    sym c.loop-listener.listener-iterator.rest.ok.0 ∙ c.in-None.ensures.steps.0 in
    moved_all _ _ _ none c.loop-listener.invariant.count

pub returns-clause-rest : goal.returns-clause-rest
returns-clause-rest g c =
    let none : length (into_iter_items c.loop-listener.listener-iterator) ≡ 0 =
    sym c.loop-listener.listener-iterator.rest.ok.0 ∙ c.in-None.ensures.steps.0 in
    none_behind _ _ _ none c.loop-listener.invariant.rest

pub returns-clause-hands : goal.returns-clause-hands
returns-clause-hands g c =
    let none : length (into_iter_items c.loop-listener.listener-iterator) ≡ 0 =
    sym c.loop-listener.listener-iterator.rest.ok.0 ∙ c.in-None.ensures.steps.0 in
    none_behind _ _ _ none c.loop-listener.invariant.hands

pub returns-clause-scrapers : goal.returns-clause-scrapers
returns-clause-scrapers g c =
    let none : length (into_iter_items c.loop-listener.listener-iterator) ≡ 0 =
    sym c.loop-listener.listener-iterator.rest.ok.0 ∙ c.in-None.ensures.steps.0 in
    none_behind _ _ _ none c.loop-listener.invariant.scrapers

pub returns-clause-stops : goal.returns-clause-stops
returns-clause-stops g c =
    let none : length (into_iter_items c.loop-listener.listener-iterator) ≡ 0 =
    sym c.loop-listener.listener-iterator.rest.ok.0 ∙ c.in-None.ensures.steps.0 in
    last_stop (into_iter_items c.loop-listener.listener-iterator) _ _ none
    c.loop-listener.invariant.stops
