use Rattle.std.proofs.Common.{◌≡◌, ◌++◌, ℕ, length, sym, subst}
use Rattle.std.specs.Prelude.{Option}
use Rattle.std.specs.List.{AllZip}
use Rattle.api_sessions.specs.declared.which.Which.TheVariants.{Feed}
use Rattle.line_base.specs.Dials.{Upstream}
use Rattle.serving.specs.declared.site.Feeding.{Feeding}
use Rattle.serving.specs.Jobs.{IsPosted}
use Rattle.serving.specs.Posts.{feed_jobs, feed_posts, interface_post, posts_at}
use Rattle.serving.specs.Running.{AreNewFeed}
use Rattle.serving.proofs.jobs.add_feed_jobs.Goals as goal

pub returns-in-Some-clause-posted : goal.returns-in-Some-clause-posted
returns-in-Some-clause-posted g c = λ policy moments ps all.
    let upstream = λ (d : g.row.N-D.Denot). let u : Upstream = g.N.D.Dialer.upstream d in u in
    let told = (g.N.Net.state c.args.net.now).told in
    let R = IsPosted {J = g.row.J.Denot} {D = g.row.N-D.Denot} {K = g.row.K.Denot}
    {X = g.row.X.Denot} {A = g.row.A.Denot} {B = g.row.B.Denot} {E = g.row.E.Denot}
    {F = g.row.F.Denot} {h = g.J.Handling} {g = g.J.Naming} g.N.L.Listener.state
    upstream g.C.Clock.to_come g.N.S.Stop.calls policy moments told in
    let feeding = c.in-Some.feeding in
    let listeners = c.args.listeners.items in
    let jobs = c.add_api_jobs.new.jobs.items in
    let is = c.in-Some.is in
    let new = subst (λ (f : Option Feeding). AreNewFeed g.N.L.Listener.state told f listeners) is
    c.requires.new in
    let one = subst (λ (f : Option Feeding). length listeners ≡ feed_jobs f) is c.requires.one in
    let got = c.add_api_jobs.ensures.posted feeding.port new policy moments ps all in
    let whole = subst (λ (k : ℕ). AllZip R
    (ps ++ posts_at (interface_post (Feed feeding.run) feeding.port) k) jobs) one got in
    subst (λ (f : Option Feeding). AllZip R (ps ++ feed_posts f) jobs) (sym is) whole
