use Rattle.std.proofs.Common.{◌≡◌, ◌+◌, ◌≤◌, ◌++◌, List, length, vec_len, vec_capacity}
use Rattle.std.specs.List.{AllZip}
use Rattle.std.specs.Vec.Iter.{into_iter_items}
use Rattle.serving.specs.Hands.{AreNewHands}
use Rattle.serving.specs.Jobs.{IsPosted, passes_of_jobs, recorders_of_jobs, scrapers_of_jobs}
use Rattle.serving.specs.Passes.{AreFree}
use Rattle.serving.specs.Posts.{Post, client_post, posts_at}
use Rattle.serving.specs.Returning.{with_stops}
use Rattle.serving.specs.Running.{AreNewFrom}
use Rattle.serving.proofs.jobs.add_proxy_jobs.Given as goal

abbrev pub invariant-loop-listener : goal.invariant-loop-listener
invariant-loop-listener g l = record {
  passes : passes_of_jobs l.jobs.items ++ into_iter_items l.passes
      ≡ passes_of_jobs l.fn.jobs.items ++ into_iter_items l.fn.passes;
  count : vec_len l.jobs + length (into_iter_items l.listener-iterator)
      ≡ vec_len l.fn.jobs + length l.fn.listeners.items;
  rest : length (into_iter_items l.passes) + length l.fn.listeners.items
      ≡ length (into_iter_items l.fn.passes) + length (into_iter_items l.listener-iterator);
  enough : length (into_iter_items l.listener-iterator) ≤ length (into_iter_items l.passes);
  rooms : length (into_iter_items l.listener-iterator) ≤ length (into_iter_items l.rooms);
  recorders : recorders_of_jobs l.jobs.items ++ into_iter_items l.recorders
      ≡ recorders_of_jobs l.fn.jobs.items ++ l.fn.places.recorders.items;
  recorders_left : length (into_iter_items l.recorders)
      ≡ length (into_iter_items l.listener-iterator);
  scrapers : scrapers_of_jobs l.jobs.items ≡ scrapers_of_jobs l.fn.jobs.items;
  hands : length (into_iter_items l.listener-iterator) ≤ length (into_iter_items l.hands);
  new_hands : AreNewHands (into_iter_items l.hands);
  room : vec_len l.jobs + length (into_iter_items l.listener-iterator) ≤ vec_capacity l.jobs;
  capacity : vec_capacity l.jobs ≡ vec_capacity l.fn.jobs;
  free : AreFree (into_iter_items l.passes);
  place : l.number + length (into_iter_items l.listener-iterator) ≡ length l.fn.listeners.items;
  new : AreNewFrom g.N.L.Listener.state (g.N.Net.state l.fn.net).told l.setup.site.now.server
      l.number (into_iter_items l.listener-iterator);
  posted : (posts : List Post)
      → AllZip (IsPosted g.N.L.Listener.state (λ d. g.N.D.Dialer.upstream d) g.C.Clock.to_come
      g.N.S.Stop.calls
      l.setup.site.now.policy (g.C.Clock.of_fork l.clock) (g.N.Net.state l.fn.net).told) posts
      l.fn.jobs.items
      → AllZip (IsPosted g.N.L.Listener.state (λ d. g.N.D.Dialer.upstream d) g.C.Clock.to_come
      g.N.S.Stop.calls
      l.setup.site.now.policy (g.C.Clock.of_fork l.clock) (g.N.Net.state l.fn.net).told)
      (posts ++ posts_at (client_post l.setup.site.now) l.number) l.jobs.items;
  told : (g.N.Net.state l.net).told ≡ (g.N.Net.state l.fn.net).told;
  stops : with_stops (length (into_iter_items l.listener-iterator)) (g.N.Net.state l.net)
      ≡ with_stops (length l.fn.listeners.items) (g.N.Net.state l.fn.net);
  kept : g.N.Net.faults l.net ≡ g.N.Net.faults l.fn.net;
}
