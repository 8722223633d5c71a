-- From a run of all jobs to the whole claim.
use Rattle.std.proofs.Common.{◌≡◌, ℕ, ◌-◌, ◌^◌, ◌<◌, ◌≤◌, true, List, [], ◌∷◌, ◌++◌, length, map}
use Rattle.std.proofs.Common.{sym, ap, subst, ◌∙◌, arith}
use Rattle.std.proofs.lemmas.Bool.Decides.{nat_tests}
use Rattle.std.proofs.lemmas.List.Elements.{All-head, All-tail}
use Rattle.std.specs.Prelude.{All, IfSome, Option, nat_lt, option_map}
use Rattle.std.specs.List.{AllByRecursion, AllZip}
use Rattle.line_base.specs.declared.listener.Endpoint.{Endpoint}
use Rattle.line_base.specs.declared.socket_address.SocketAddress.{SocketAddress}
use Rattle.line_base.specs.Nets.{Ended, Networking, Returns, is_clean}
use Rattle.one_history.specs.Order.{Distinct}
use Rattle.line_base.specs.Counts.{added}
use Rattle.workers.specs.Turns.{raised_by}
use Rattle.workers.proofs.Sums.{raised_by_is}
use Rattle.serving.specs.declared.policy.Policy.{Policy}
use Rattle.exchange_record.specs.declared.recorder.Recorder.{Ghosts as Recording}
use Rattle.linker_config.specs.declared.loaded.LoadedItem.{LoadedItem}
use Rattle.router.specs.declared.naming.Naming.{Ghosts}
use Rattle.router.specs.declared.pass.Pass.{Pass}
use Rattle.router.specs.Closing.{IsClosed, IsOf, numbers_of}
use Rattle.router.proofs.Closing.{map_length}
use Rattle.line_base.specs.Lines.{Line}
use Rattle.scrape.specs.Scrapes.{Scraping}
use Rattle.serving.specs.declared.running.Served.{Served}
use Rattle.serving.specs.declared.site.Site.{Site}
use Rattle.serving.specs.Ending.{HasServed}
use Rattle.serving.specs.Services.{HaveSeen}
use Rattle.serving.specs.Posts.{Post, clients, interface, jobs_of, posts_of}
use Rattle.serving.specs.Returning.{with_all, with_left_over, with_stops}
use Rattle.serving.specs.Running.{HasRun}
use Rattle.serving.specs.Shifts.{IsTended, ServesPost, Shift, admissions, admitted_in, returned_in}
use Rattle.serving.proofs.Counting.{IsCounted, all_accepted, all_finishes}
use Rattle.serving.proofs.Services.{last_seen, loaded_few}
use Rattle.serving.proofs.Returning.{ended_clean, ended_given, ended_returned, ended_told}
use Rattle.serving.proofs.Returning.{finished_closes, given_accepted}
use Rattle.serving.proofs.Returning.{given_clean, given_finished, given_returned, given_stops}
use Rattle.serving.proofs.Returning.{given_told, over_length}
use Rattle.serving.proofs.Shifts.{all_posts}
use Rattle.serving.proofs.Zipping.{zip_count}

all_last : {A : Type 0} (Q : A → Type 0) (xs : List A) (x : A) → All Q (xs ++ x ∷ []) → Q x
all_last Q [] x all = All-head Q x [] all
all_last Q (y ∷ xs) x all = all_last Q xs x (All-tail Q y (xs ++ x ∷ []) all)

room_left : {P : Type 0} (t u : Option (Returns P)) (m n : ℕ) → u ≡ t → m ≡ n
    → IfSome t (λ r. n ≤ r.room) → IfSome u (λ r. m ≤ r.room)
room_left t u m n is same room =
    subst (λ (v : Option (Returns _)). IfSome v (λ r. m ≤ r.room)) (sym is)
    (subst (λ (k : ℕ). IfSome t (λ r. k ≤ r.room)) (sym same) room)

-- listeners are clean where the first of them finished others too
over_clean : {P : Type 0} (over : List P) (es : List (Ended P))
    → AllByRecursion (λ (e : Ended _). is_clean e.listener ≡ true) es
    → AllByRecursion (λ (e : Ended _). is_clean e.listener ≡ true) (with_left_over over es)
over_clean over [] all = tt
over_clean over (e ∷ es) all =
    (ap (λ (n : ℕ). nat_lt 0 n) (finished_closes over e.listener) ∙ all.0, all.1)

module _ {J P K : Type 0} {g : Ghosts J} where
  -- a listener that was tended came back clean, and counted its turns
  tended_clean : (told : Option (Returns P)) (endpoint : Endpoint) (s : Shift J P K g)
      → IsTended told endpoint s → is_clean s.ended.listener ≡ true
  tended_clean told endpoint s t = grind (arith, nat_tests, t.closes)

  tended_counted : (told : Option (Returns P)) (endpoint : Endpoint) (s : Shift J P K g)
      → IsTended told endpoint s → IsCounted s
  tended_counted told endpoint s t =
      let none : 0 ≤ 2 ^ 64 - 1 = omega arith in
      let came = length (admitted_in s.turns) in
      let left = length (returned_in s.turns) in
      record {
        accepted = t.lends.accepted ∙ (ap (raised_by came) t.new.accepted
            ∙ (raised_by_is came 0 none ∙ omega arith));
        finished = t.lends.finished ∙ (ap (raised_by left) t.new.finished
            ∙ (raised_by_is left 0 none ∙ omega arith));
      }

  tended_by : (line_of : P → Line) (address_of : P → Option SocketAddress)
      (k : Recording K) (policy : Policy) (moments : Option (List ℕ)) (told : Option (Returns P))
      (post : Post)
      (s : Shift J P K g)
      → ServesPost line_of address_of k policy moments told post s
      → (endpoint : Endpoint) × IsTended told endpoint s
  tended_by line_of address_of k policy moments told (clients endpoint seed) s serves =
      (endpoint, serves.tended)
  tended_by line_of address_of k policy moments told (interface which endpoint) s serves =
      (endpoint, serves.tended)

  all_clean : (line_of : P → Line) (address_of : P → Option SocketAddress)
      (k : Recording K) (policy : Policy) (moments : Option (List ℕ)) (told : Option (Returns P))
      (posts : List Post)
      (shifts : List (Shift J P K g))
      → AllZip (ServesPost line_of address_of k policy moments told) posts shifts
      → AllByRecursion (λ (e : Ended P). is_clean e.listener ≡ true)
      (map (λ (s : Shift J P K g). s.ended) shifts)
  all_clean line_of address_of k policy moments told [] [] all = tt
  all_clean line_of address_of k policy moments told [] (s ∷ ss) all = absurd all
  all_clean line_of address_of k policy moments told (p ∷ ps) [] all = absurd all
  all_clean line_of address_of k policy moments told (p ∷ ps) (s ∷ ss) all =
      let t = tended_by line_of address_of k policy moments told p s all.0 in
      (tended_clean told t.0 s t.1, all_clean line_of address_of k policy moments told ps ss all.1)

  all_counted : (line_of : P → Line) (address_of : P → Option SocketAddress)
      (k : Recording K) (policy : Policy) (moments : Option (List ℕ)) (told : Option (Returns P))
      (posts : List Post)
      (shifts : List (Shift J P K g))
      → AllZip (ServesPost line_of address_of k policy moments told) posts shifts
      → AllByRecursion IsCounted shifts
  all_counted line_of address_of k policy moments told [] [] all = tt
  all_counted line_of address_of k policy moments told [] (s ∷ ss) all = absurd all
  all_counted line_of address_of k policy moments told (p ∷ ps) [] all = absurd all
  all_counted line_of address_of k policy moments told (p ∷ ps) (s ∷ ss) all =
      let t = tended_by line_of address_of k policy moments told p s all.0 in (
        tended_counted told t.0 s t.1,
        all_counted line_of address_of k policy moments told ps ss
            all.1,
      )

  pub has_served : (line_of : P → Line) (address_of : P → Option SocketAddress)
      (k : Recording K) (site : Site) (moments : Option (List ℕ)) (loaded : List LoadedItem)
      (passes last : List (Pass J g)) (recorders recorders_after : List K)
      (scrapers : List Scraping) (net net_after : Networking P) (served : Served)
      → Distinct (numbers_of passes) → HaveSeen loaded passes
      → IfSome net.told (λ r. jobs_of site ≤ r.room)
      → HasRun line_of address_of k site moments passes last recorders recorders_after scrapers net
      net_after served.lacked_memory
      → IsClosed served.place last
      → HasServed line_of address_of k site moments loaded passes recorders recorders_after scrapers
      net net_after served
  has_served line_of address_of k site moments loaded passes last recorders recorders_after scrapers
      net net_after served apart seen room ran closed =
      let n = jobs_of site in
      let first_ends = map (λ (s : Shift J P K g). s.ended) ran.shifts in
      let ends = with_left_over ran.over first_ends in
      let mid = with_stops n net in
      let clean = over_clean ran.over first_ends
      (all_clean line_of address_of k site.policy moments net.told (posts_of site) ran.shifts
      ran.served) in
      let counted = all_counted line_of address_of k site.policy moments net.told (posts_of site)
      ran.shifts
      ran.served in
      let shifts_count : length ran.shifts ≡ n =
      zip_count (ServesPost line_of address_of k site.policy moments net.told) (posts_of site)
      ran.shifts
      ran.served ∙ all_posts site in
      let count : length ends ≡ n =
      over_length ran.over first_ends
      ∙ (map_length (λ (s : Shift J P K g). s.ended) ran.shifts ∙ shifts_count) in
      let some : 0 < length ran.shifts = omega (arith, shifts_count) in
      let behind = map (λ (s : Shift J P K g). s.behind) ran.shifts in
      let first = map (λ (s : Shift J P K g). s.before) ran.shifts in
      let all = subst (All (IsOf closed.ops)) ran.behind closed.passes_are in
      let front = all_last (IsOf closed.ops) behind ran.rest all in
      let few = loaded_few loaded ran.rest closed.ops
      (last_seen loaded first ran.rest (subst (HaveSeen loaded) ran.before seen)) front.seen in
      record {
        apart = apart;
        seen = seen;
        last = last;
        ran = ran;
        closed = closed;
        clean = ap (λ (m : Networking P). m.clean) ran.net_is
            ∙ (ended_clean ends mid clean
            ∙ (ap (λ (k : ℕ). raised_by k mid.clean) count ∙ ap (raised_by n) (given_clean n net)));
        accepted = ap (λ (m : Networking P). m.accepted) ran.net_is
            ∙ (all_accepted ran.over ran.shifts mid some counted
            ∙ ap (λ (k : ℕ). added k (admissions ran.shifts)) (given_accepted n net));
        finished = ap (λ (m : Networking P). m.finished) ran.net_is
            ∙ (all_finishes ran.over ran.shifts mid (admissions ran.shifts) some counted
            ran.all_back
            ∙ ap (λ (k : ℕ). added k (admissions ran.shifts)) (given_finished n net));
        stops_given = ap (λ (m : Networking P). m.stops_given) ran.net_is
            ∙ (ended_given ends mid ∙ given_stops n net);
        stops_returned = ap (λ (m : Networking P). m.stops_returned) ran.net_is
            ∙ (ended_returned ends mid
            ∙ (ap (λ (k : ℕ). raised_by k mid.stops_returned) count
            ∙ ap (raised_by n) (given_returned n net)));
        told = ap (λ (m : Networking P). m.told) ran.net_is
            ∙ (ended_told ends mid
            (room_left net.told mid.told (length ends) n (given_told n net) count room)
            ∙ ap (option_map (with_all ends)) (given_told n net));
        place = subst (λ (k : ℕ). length loaded ≤ k) closed.place_is few;
      }
