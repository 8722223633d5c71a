use Rattle.std.proofs.Common.{◌≡◌, ℕ, ◌+◌, ◌≤◌, ◌++◌, List, length, vec_len, vec_capacity}
use Rattle.std.specs.Prelude.{Option}
use Rattle.std.specs.List.{AllZip}
use Rattle.std.specs.Vec.Iter.{into_iter_items}
use Rattle.serving.specs.declared.policy.Policy.{Policy}
use Rattle.linker_config.specs.declared.config.Port.{Port}
use Rattle.serving.specs.Hands.{AreNewHands}
use Rattle.serving.specs.Jobs.{IsPosted, passes_of_jobs, recorders_of_jobs, scrapers_of_jobs}
use Rattle.serving.specs.Passes.{AreFree}
use Rattle.serving.specs.Posts.{Post, interface_post, posts_at}
use Rattle.serving.specs.Returning.{with_stops}
use Rattle.serving.specs.Running.{AreNewFrom}
use Rattle.serving.proofs.jobs.add_api_jobs.Given as goal

abbrev pub invariant-loop-listener : goal.invariant-loop-listener
invariant-loop-listener g l = record {
  passes : passes_of_jobs l.jobs.items ++ into_iter_items l.passes
      ≡ passes_of_jobs l.fn.jobs.items ++ into_iter_items l.fn.passes;
  count : vec_len l.jobs + length (into_iter_items l.listener-iterator)
      ≡ vec_len l.fn.jobs + length l.fn.interface.listeners.items;
  rest : length (into_iter_items l.passes) + length l.fn.interface.listeners.items
      ≡ length (into_iter_items l.fn.passes) + length (into_iter_items l.listener-iterator);
  enough : length (into_iter_items l.listener-iterator) ≤ length (into_iter_items l.passes);
  hands : length (into_iter_items l.hands) + length l.fn.interface.listeners.items
      ≡ length (into_iter_items l.fn.hands) + length (into_iter_items l.listener-iterator);
  enough_hands : length (into_iter_items l.listener-iterator) ≤ length (into_iter_items l.hands);
  new_hands : AreNewHands (into_iter_items l.hands);
  scrapers : length (into_iter_items l.scrapers) + length l.fn.interface.listeners.items
      ≡ length (into_iter_items l.fn.scrapers) + length (into_iter_items l.listener-iterator);
  enough_scrapers : length (into_iter_items l.listener-iterator)
      ≤ length (into_iter_items l.scrapers);
  recorders : recorders_of_jobs l.jobs.items ≡ recorders_of_jobs l.fn.jobs.items;
  scraped : scrapers_of_jobs l.jobs.items ++ into_iter_items l.scrapers
      ≡ scrapers_of_jobs l.fn.jobs.items ++ into_iter_items l.fn.scrapers;
  room : vec_len l.jobs + length (into_iter_items l.listener-iterator) ≤ vec_capacity l.jobs;
  capacity : vec_capacity l.jobs ≡ vec_capacity l.fn.jobs;
  free : AreFree (into_iter_items l.passes);
  posted : (place : ℕ) × (place + length (into_iter_items l.listener-iterator)
      ≡ length l.fn.interface.listeners.items)
      × ((port : Port) → AreNewFrom g.N.L.Listener.state
      (g.N.Net.state l.fn.net).told port 0 l.fn.interface.listeners.items
      → AreNewFrom g.N.L.Listener.state (g.N.Net.state l.fn.net).told port place
      (into_iter_items l.listener-iterator))
      × ((port : Port) → AreNewFrom g.N.L.Listener.state
      (g.N.Net.state l.fn.net).told port 0 l.fn.interface.listeners.items → (policy : Policy)
      → (moments : Option (List ℕ)) → (posts : List Post)
      → AllZip (IsPosted g.N.L.Listener.state (λ d. g.N.D.Dialer.upstream d) g.C.Clock.to_come
      g.N.S.Stop.calls
      policy moments (g.N.Net.state l.fn.net).told) posts l.fn.jobs.items
      → AllZip (IsPosted g.N.L.Listener.state (λ d. g.N.D.Dialer.upstream d) g.C.Clock.to_come
      g.N.S.Stop.calls
      policy moments (g.N.Net.state l.fn.net).told)
      (posts ++ posts_at (interface_post l.fn.interface.which port) place) l.jobs.items);
  stops : with_stops (length (into_iter_items l.listener-iterator)) (g.N.Net.state l.net)
      ≡ with_stops (length l.fn.interface.listeners.items) (g.N.Net.state l.fn.net);
  kept : g.N.Net.faults l.net ≡ g.N.Net.faults l.fn.net;
}
