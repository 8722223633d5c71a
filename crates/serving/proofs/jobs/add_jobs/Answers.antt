use Rattle.std.proofs.Common.{◌≡◌, ◌+◌, ◌++◌, List, ap, sym, subst, ◌∙◌, arith, length}
use Rattle.std.specs.Prelude.{Option}
use Rattle.std.specs.List.{AllZip}
use Rattle.std.specs.Vec.Iter.{into_iter_items}
use Rattle.line_base.specs.Nets.{Returns}
use Rattle.line_base.specs.Dials.{Upstream}
use Rattle.serving.specs.Hands.{AreNewHands}
use Rattle.serving.specs.Jobs.{IsPosted, RouterJob, passes_of_jobs, recorders_of_jobs}
use Rattle.serving.specs.Jobs.{scrapers_of_jobs}
use Rattle.serving.specs.Posts.{jobs_of, main_posts, posts_of}
use Rattle.serving.specs.Running.{AreNewFeed, AreNewFrom}
use Rattle.serving.proofs.Moving.{as_few}
use Rattle.serving.proofs.Posting.{all_stops, main_posted, told_kept}
use Rattle.serving.proofs.Sharing.{all_posted, all_shared, at_least, few_of, first_called}
use Rattle.serving.proofs.Sharing.{first_fits, first_shared, fourth_fits, fourth_shared}
use Rattle.serving.proofs.Sharing.{second_called}
use Rattle.serving.proofs.Sharing.{second_fits, second_shared, third_called, third_fits}
use Rattle.serving.proofs.Sharing.{none_called, third_shared}
use Rattle.serving.proofs.Zipping.{nothing_left}
use Rattle.serving.proofs.jobs.add_jobs.Goals as goal

pub returns-clause-posted : goal.returns-clause-posted
returns-clause-posted g c =
    let upstream = λ (d : g.row.N-D.Denot). let u : Upstream = g.N.D.Dialer.upstream d in u in
    let site = c.args.setup.now.site.now in
    let bound = c.args.bound in
    let count = c.requires.listens.count in
    let moments = g.C.Clock.of_fork c.args.clock.now in
    let first = c.add_proxy_jobs.ensures in
    let second = c.add_api_jobs.ensures in
    let third = c.add_api_jobs-2.ensures in
    let told = (g.N.Net.state c.args.net.now).told in
    let same_1 = told_kept (length bound.server.items) (g.N.Net.state c.args.net.now)
    (g.N.Net.state c.add_proxy_jobs.new.net) first.stops in
    let same_2 = told_kept (length bound.namerd.items) (g.N.Net.state c.add_proxy_jobs.new.net)
    (g.N.Net.state c.add_api_jobs.new.net) second.stops ∙ same_1 in
    let namerd = subst (λ (t : Option (Returns g.row.N-L-P.Denot)).
    AreNewFrom g.N.L.Listener.state t site.namerd 0 bound.namerd.items)
    (sym same_1) c.requires.listens.namerd in
    let admin = subst (λ (t : Option (Returns g.row.N-L-P.Denot)).
    AreNewFrom g.N.L.Listener.state t site.admin 0 bound.admin.items)
    (sym same_2) c.requires.listens.admin in
    let main = main_posted
    (λ t. IsPosted {J = g.row.J.Denot} {D = g.row.N-D.Denot} {K = g.row.K.Denot}
    {X = g.row.X.Denot} {A = g.row.A.Denot} {B = g.row.B.Denot} {E = g.row.E.Denot}
    {F = g.row.F.Denot} {h = g.J.Handling} {g = g.J.Naming} g.N.L.Listener.state upstream
    g.C.Clock.to_come g.N.S.Stop.calls site.policy moments t) site told
    (g.N.Net.state c.add_proxy_jobs.new.net).told (g.N.Net.state c.add_api_jobs.new.net).told _ _ _
    c.args.jobs.now.items c.add_proxy_jobs.new.jobs.items c.add_api_jobs.new.jobs.items
    c.add_api_jobs-2.new.jobs.items same_1 same_2 count.0 count.1 count.2 c.requires.none_yet
    first.posted (second.posted site.namerd namerd site.policy moments)
    (third.posted site.admin admin site.policy moments) in
    let fourth = c.add_feed_jobs.ensures in
    let same_3 = told_kept (length bound.admin.items) (g.N.Net.state c.add_api_jobs.new.net)
    (g.N.Net.state c.add_api_jobs-2.new.net) third.stops ∙ same_2 in
    let By = λ (t : Option (Returns g.row.N-L-P.Denot)).
    IsPosted {J = g.row.J.Denot} {D = g.row.N-D.Denot} {K = g.row.K.Denot} {X = g.row.X.Denot}
    {A = g.row.A.Denot} {B = g.row.B.Denot} {E = g.row.E.Denot} {F = g.row.F.Denot}
    {h = g.J.Handling} {g = g.J.Naming} g.N.L.Listener.state upstream g.C.Clock.to_come
    g.N.S.Stop.calls site.policy moments t in
    let then = subst (λ (t : Option (Returns g.row.N-L-P.Denot)).
    AllZip (By t) (main_posts site) c.add_api_jobs-2.new.jobs.items) (sym same_3) main in
    subst (λ (t : Option (Returns g.row.N-L-P.Denot)).
    AllZip (By t) (posts_of site) c.add_feed_jobs.new.jobs.items) same_3
    (fourth.posted site.policy moments (main_posts site) then)

pub add_api_jobs-requires-clause-new_hands : goal.add_api_jobs-requires-clause-new_hands
add_api_jobs-requires-clause-new_hands g c κs within =
    subst AreNewHands (sym c.into_iter-hands.ensures.rest) c.requires.supplied.new_callers

pub add_feed_jobs-requires-clause-new : goal.add_feed_jobs-requires-clause-new
add_feed_jobs-requires-clause-new g c κs within =
    let site = c.args.setup.now.site.now in
    let bound = c.args.bound in
    let first = c.add_proxy_jobs.ensures in
    let second = c.add_api_jobs.ensures in
    let third = c.add_api_jobs-2.ensures in
    let same_1 = told_kept (length bound.server.items) (g.N.Net.state c.args.net.now)
    (g.N.Net.state c.add_proxy_jobs.new.net) first.stops in
    let same_2 = told_kept (length bound.namerd.items) (g.N.Net.state c.add_proxy_jobs.new.net)
    (g.N.Net.state c.add_api_jobs.new.net) second.stops ∙ same_1 in
    let same_3 = told_kept (length bound.admin.items) (g.N.Net.state c.add_api_jobs.new.net)
    (g.N.Net.state c.add_api_jobs-2.new.net) third.stops ∙ same_2 in
    subst (λ (t : Option (Returns g.row.N-L-P.Denot)).
    AreNewFeed g.N.L.Listener.state t site.feed bound.feed.items)
    (sym same_3) c.requires.listens.feed

pub returns-clause-stops : goal.returns-clause-stops
returns-clause-stops g c =
    let bound = c.args.bound in
    let count = c.requires.listens.count in
    let sum : length bound.server.items + length bound.namerd.items + length bound.admin.items
    + length bound.feed.items ≡ jobs_of c.args.setup.now.site.now =
    omega (arith, count.0, count.1, count.2, count.3) in
    all_stops (g.N.Net.state c.args.net.now) (g.N.Net.state c.add_proxy_jobs.new.net)
    (g.N.Net.state c.add_api_jobs.new.net) (g.N.Net.state c.add_api_jobs-2.new.net)
    (g.N.Net.state c.add_feed_jobs.new.net) (length bound.server.items) (length bound.namerd.items)
    (length bound.admin.items) (length bound.feed.items) (jobs_of c.args.setup.now.site.now)
    c.add_proxy_jobs.ensures.stops c.add_api_jobs.ensures.stops c.add_api_jobs-2.ensures.stops
    c.add_feed_jobs.ensures.stops sum

pub returns-clause-recorders : goal.returns-clause-recorders
returns-clause-recorders g c =
    let first = c.add_proxy_jobs.ensures in
    let second = c.add_api_jobs.ensures in
    let third = c.add_api_jobs-2.ensures in
    let fourth = c.add_feed_jobs.ensures in
    fourth.recorders ∙ (third.recorders ∙ (second.recorders ∙ (first.recorders
    ∙ ap
    (λ (js : List (RouterJob g.row.N-L-P.Denot g.row.J.Denot g.row.N-L.Denot g.row.N-D.Denot
    g.row.C.Denot g.row.K.Denot g.row.N-S.Denot g.row.X.Denot g.row.A.Denot g.row.B.Denot
    g.row.E.Denot g.row.F.Denot g.J.Handling g.J.Naming)). recorders_of_jobs js
    ++ c.args.supplies.instruments.recorders.items) c.requires.none_yet)))

pub returns-clause-scrapers : goal.returns-clause-scrapers
returns-clause-scrapers g c =
    let count = c.requires.listens.count in
    let first = c.add_proxy_jobs.ensures in
    let second = c.add_api_jobs.ensures in
    let third = c.add_api_jobs-2.ensures in
    let fourth = c.add_feed_jobs.ensures in
    let given = c.into_iter-scrapers.ensures.rest in
    let none = none_called c.args.setup.now.site.now c.args.bound _ _ _ _ count
    (ap length given ∙ c.requires.supplied.instruments.scrapers) second.scrapers third.scrapers
    fourth.scrapers in
    nothing_left _ _ _ none (fourth.scraped ∙ (third.scraped ∙ (second.scraped
    ∙ (ap (λ (xs : List g.row.X.Denot). xs ++ into_iter_items c.into_iter-scrapers.result)
    (first.scrapers
    ∙ ap
    (λ (js : List (RouterJob g.row.N-L-P.Denot g.row.J.Denot g.row.N-L.Denot g.row.N-D.Denot
    g.row.C.Denot g.row.K.Denot g.row.N-S.Denot g.row.X.Denot g.row.A.Denot g.row.B.Denot
    g.row.E.Denot g.row.F.Denot g.J.Handling g.J.Naming)). scrapers_of_jobs js) c.requires.none_yet)
    ∙ given))))

pub add_proxy_jobs-requires-clause-enough : goal.add_proxy_jobs-requires-clause-enough
add_proxy_jobs-requires-clause-enough g c κs within =
    first_shared c.args.setup.now.site.now c.args.bound _ c.requires.listens.count
    c.requires.enough

pub add_proxy_jobs-requires-clause-rooms : goal.add_proxy_jobs-requires-clause-rooms
add_proxy_jobs-requires-clause-rooms g c κs within =
    let count = c.requires.listens.count in
    as_few _ _ _ count.0 c.requires.supplied.rooms

pub add_proxy_jobs-requires-clause-recorders : goal.add_proxy_jobs-requires-clause-recorders
add_proxy_jobs-requires-clause-recorders g c κs within =
    let count = c.requires.listens.count in
    c.requires.supplied.instruments.recorders ∙ sym count.0

pub add_proxy_jobs-requires-clause-hands : goal.add_proxy_jobs-requires-clause-hands
add_proxy_jobs-requires-clause-hands g c κs within =
    let count = c.requires.listens.count in
    as_few _ _ _ count.0 c.requires.supplied.clients

pub add_proxy_jobs-requires-clause-room : goal.add_proxy_jobs-requires-clause-room
add_proxy_jobs-requires-clause-room g c κs within =
    first_fits c.args.setup.now.site.now c.args.bound _ _ c.requires.listens.count c.requires.room

pub add_proxy_jobs-requires-clause-few : goal.add_proxy_jobs-requires-clause-few
add_proxy_jobs-requires-clause-few g c κs within =
    let count = c.requires.listens.count in
    few_of _ _ _ count.0 c.requires.listens.few

pub add_api_jobs-requires-clause-enough : goal.add_api_jobs-requires-clause-enough
add_api_jobs-requires-clause-enough g c κs within =
    second_shared c.args.setup.now.site.now c.args.bound _ _ c.requires.listens.count
    c.requires.enough c.add_proxy_jobs.ensures.rest

pub add_api_jobs-requires-clause-hands : goal.add_api_jobs-requires-clause-hands
add_api_jobs-requires-clause-hands g c κs within =
    first_called c.args.setup.now.site.now c.args.bound _ _ c.requires.listens.count
    (ap length c.into_iter-hands.ensures.rest) c.requires.supplied.callers

pub add_api_jobs-requires-clause-scrapers : goal.add_api_jobs-requires-clause-scrapers
add_api_jobs-requires-clause-scrapers g c κs within =
    first_called c.args.setup.now.site.now c.args.bound _ _ c.requires.listens.count
    (ap length c.into_iter-scrapers.ensures.rest)
    (at_least _ _ c.requires.supplied.instruments.scrapers)

pub add_api_jobs-requires-clause-room : goal.add_api_jobs-requires-clause-room
add_api_jobs-requires-clause-room g c κs within =
    second_fits c.args.setup.now.site.now c.args.bound _ _ _ _ c.requires.listens.count
    c.requires.room c.add_proxy_jobs.ensures.count c.add_proxy_jobs.ensures.room

pub add_api_jobs-requires-2-clause-enough : goal.add_api_jobs-requires-2-clause-enough
add_api_jobs-requires-2-clause-enough g c κs within =
    third_shared c.args.setup.now.site.now c.args.bound _ _ _ c.requires.listens.count
    c.requires.enough c.add_proxy_jobs.ensures.rest c.add_api_jobs.ensures.rest

pub add_api_jobs-requires-2-clause-hands : goal.add_api_jobs-requires-2-clause-hands
add_api_jobs-requires-2-clause-hands g c κs within =
    second_called c.args.setup.now.site.now c.args.bound _ _ _ c.requires.listens.count
    (ap length c.into_iter-hands.ensures.rest) c.requires.supplied.callers
    c.add_api_jobs.ensures.hands

pub add_api_jobs-requires-2-clause-scrapers : goal.add_api_jobs-requires-2-clause-scrapers
add_api_jobs-requires-2-clause-scrapers g c κs within =
    second_called c.args.setup.now.site.now c.args.bound _ _ _ c.requires.listens.count
    (ap length c.into_iter-scrapers.ensures.rest)
    (at_least _ _ c.requires.supplied.instruments.scrapers) c.add_api_jobs.ensures.scrapers

pub add_api_jobs-requires-2-clause-room : goal.add_api_jobs-requires-2-clause-room
add_api_jobs-requires-2-clause-room g c κs within =
    third_fits c.args.setup.now.site.now c.args.bound _ _ _ _ _ c.requires.listens.count
    c.requires.room c.add_proxy_jobs.ensures.count c.add_api_jobs.ensures.count
    (c.add_api_jobs.ensures.room ∙ c.add_proxy_jobs.ensures.room)

pub add_feed_jobs-requires-clause-enough : goal.add_feed_jobs-requires-clause-enough
add_feed_jobs-requires-clause-enough g c κs within =
    fourth_shared c.args.setup.now.site.now c.args.bound _ _ _ _ c.requires.listens.count
    c.requires.enough c.add_proxy_jobs.ensures.rest c.add_api_jobs.ensures.rest
    c.add_api_jobs-2.ensures.rest

pub add_feed_jobs-requires-clause-hands : goal.add_feed_jobs-requires-clause-hands
add_feed_jobs-requires-clause-hands g c κs within =
    third_called c.args.setup.now.site.now c.args.bound _ _ _ _ c.requires.listens.count
    (ap length c.into_iter-hands.ensures.rest) c.requires.supplied.callers
    c.add_api_jobs.ensures.hands c.add_api_jobs-2.ensures.hands

pub add_feed_jobs-requires-clause-scrapers : goal.add_feed_jobs-requires-clause-scrapers
add_feed_jobs-requires-clause-scrapers g c κs within =
    third_called c.args.setup.now.site.now c.args.bound _ _ _ _ c.requires.listens.count
    (ap length c.into_iter-scrapers.ensures.rest)
    (at_least _ _ c.requires.supplied.instruments.scrapers) c.add_api_jobs.ensures.scrapers
    c.add_api_jobs-2.ensures.scrapers

pub add_feed_jobs-requires-clause-room : goal.add_feed_jobs-requires-clause-room
add_feed_jobs-requires-clause-room g c κs within =
    fourth_fits c.args.setup.now.site.now c.args.bound _ _ _ _ _ _ c.requires.listens.count
    c.requires.room c.add_proxy_jobs.ensures.count c.add_api_jobs.ensures.count
    c.add_api_jobs-2.ensures.count
    (c.add_api_jobs-2.ensures.room ∙ (c.add_api_jobs.ensures.room ∙ c.add_proxy_jobs.ensures.room))

pub returns-clause-passes : goal.returns-clause-passes
returns-clause-passes g c =
    let first = c.add_proxy_jobs.ensures in
    let second = c.add_api_jobs.ensures in
    let third = c.add_api_jobs-2.ensures in
    let fourth = c.add_feed_jobs.ensures in
    fourth.passes ∙ (third.passes ∙ (second.passes ∙ (first.passes
    ∙ ap
    (λ (js : List (RouterJob g.row.N-L-P.Denot g.row.J.Denot g.row.N-L.Denot g.row.N-D.Denot
    g.row.C.Denot g.row.K.Denot g.row.N-S.Denot g.row.X.Denot g.row.A.Denot g.row.B.Denot
    g.row.E.Denot g.row.F.Denot g.J.Handling g.J.Naming)). passes_of_jobs js
    ++ into_iter_items c.args.passes.now) c.requires.none_yet)))

pub returns-clause-rest : goal.returns-clause-rest
returns-clause-rest g c =
    all_shared c.args.setup.now.site.now c.args.bound _ _ _ _ _ c.requires.listens.count
    c.add_proxy_jobs.ensures.rest c.add_api_jobs.ensures.rest c.add_api_jobs-2.ensures.rest
    c.add_feed_jobs.ensures.rest

pub returns-clause-room : goal.returns-clause-room
returns-clause-room g c =
    let first = c.add_proxy_jobs.ensures in
    let second = c.add_api_jobs.ensures in
    let third = c.add_api_jobs-2.ensures in
    let fourth = c.add_feed_jobs.ensures in
    fourth.room ∙ (third.room ∙ (second.room ∙ first.room))

pub returns-clause-kept : goal.returns-clause-kept
returns-clause-kept g c =
    let first = c.add_proxy_jobs.ensures in
    let second = c.add_api_jobs.ensures in
    let third = c.add_api_jobs-2.ensures in
    let fourth = c.add_feed_jobs.ensures in
    fourth.kept ∙ (third.kept ∙ (second.kept ∙ first.kept))

pub returns-clause-count : goal.returns-clause-count
returns-clause-count g c =
    all_posted c.args.setup.now.site.now c.args.bound _ _ _ _ _ c.requires.listens.count
    (c.args.jobs.now.ok.0 ∙ ap length c.requires.none_yet) c.add_proxy_jobs.ensures.count
    c.add_api_jobs.ensures.count c.add_api_jobs-2.ensures.count c.add_feed_jobs.ensures.count
