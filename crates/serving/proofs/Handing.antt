-- How many hands there are at either lot.
use Rattle.std.proofs.Common.{◌≡◌, ℕ, zero, suc, ◌+◌, List, [], ◌∷◌, ◌++◌, length, length-append}
use Rattle.std.proofs.Common.{refl, None, Some, ap, arith, true, ◌∙◌}
use Rattle.std.proofs.lemmas.List.Elements.{All-head, All-tail}
use Rattle.std.specs.Prelude.{Option, fold, sum_by}
use Rattle.std.specs.List.{AllZip}
use Rattle.client_stays.specs.declared.handling.Handling.{Ghosts as Handled}
use Rattle.line_base.specs.Accepts.{Listening}
use Rattle.line_base.specs.Dials.{Upstream}
use Rattle.line_base.specs.Nets.{Returns}
use Rattle.router.specs.declared.naming.Naming.{Ghosts}
use Rattle.api_sessions.specs.declared.which.Which.TheVariants.{Namerd, Admin}
use Rattle.waiting.specs.declared.hand.Hand.{Hand}
use Rattle.waiting.specs.Hands.{left_by, IsNew as IsNewHand}
use Rattle.serving.specs.declared.parts.Apart.{Apart}
use Rattle.serving.specs.declared.job.ServingJob.TheVariants as job
use Rattle.serving.specs.declared.policy.Policy.{Policy}
use Rattle.serving.specs.declared.site.Feeding.{Feeding}
use Rattle.serving.specs.declared.site.Site.{Site}
use Rattle.serving.specs.Hands.{AreNewHands, LeftMore}
use Rattle.serving.specs.Jobs.{IsPosted, RouterJob, caller_hand, caller_hands, client_hand}
use Rattle.serving.specs.Jobs.{client_hands}
use Rattle.serving.specs.Posts.{Post, clients, interface, client_post, feed_jobs, feed_posts}
use Rattle.serving.specs.Parts.{CountsParts, IsEmpty}
use Rattle.serving.specs.Posts.{interface_jobs, interface_post, jobs_of, main_posts, posts_at}
use Rattle.serving.specs.Posts.{posts_of}
use Rattle.serving.specs.Tending.{HasParts}

module _ {A B : Type 0} where
  left_none : (hands : List (Hand A B)) (start : ℕ) → AreNewHands hands
      → fold (λ a h. a + left_by h) start hands ≡ start
  left_none [] start new = refl
  left_none (one ∷ hands) start new =
      let here = (All-head IsNewHand one hands new).left_is in
      let same : start + left_by one ≡ start = omega (arith, here) in
      left_none hands (start + left_by one) (All-tail IsNewHand one hands new) ∙ same

  -- with new hands nobody was left to wait
  pub nobody_left : (hands : List (Hand A B)) (waiting : ℕ) → AreNewHands hands
      → LeftMore hands waiting → waiting ≡ 0
  nobody_left hands waiting new more =
      let none : sum_by left_by hands ≡ 0 = left_none hands 0 new in
      omega (arith, none, more)

pub none_here : {C : Type 0} (xs : List C) → length xs ≡ 0 → xs ≡ []
none_here [] none = refl
none_here (x ∷ xs) none = let no : ⊥ = omega (arith, none) in absurd no

-- how many posts are for clients, and how many for callers of an interface
client_posts : List Post → ℕ
client_posts [] = 0
client_posts (clients endpoint seed ∷ posts) = suc (client_posts posts)
client_posts (interface which endpoint ∷ posts) = client_posts posts

caller_posts : List Post → ℕ
caller_posts [] = 0
caller_posts (clients endpoint seed ∷ posts) = caller_posts posts
caller_posts (interface which endpoint ∷ posts) = suc (caller_posts posts)

clients_append : (ps qs : List Post)
    → client_posts (ps ++ qs) ≡ client_posts ps + client_posts qs
unfolding client_posts
clients_append [] qs = omega arith
clients_append (clients endpoint seed ∷ ps) qs =
    let rest = clients_append ps qs in omega (arith, rest)
clients_append (interface which endpoint ∷ ps) qs = clients_append ps qs

callers_append : (ps qs : List Post)
    → caller_posts (ps ++ qs) ≡ caller_posts ps + caller_posts qs
unfolding caller_posts
callers_append [] qs = omega arith
callers_append (clients endpoint seed ∷ ps) qs = callers_append ps qs
callers_append (interface which endpoint ∷ ps) qs =
    let rest = callers_append ps qs in omega (arith, rest)

clients_at : (site : Site) (n : ℕ) → client_posts (posts_at (client_post site) n) ≡ n
unfolding client_posts
clients_at site zero = refl
clients_at site (suc n) =
    let rest = clients_at site n in
    let all = clients_append (posts_at (client_post site) n) (client_post site n ∷ []) in
    omega (arith, rest, all)

no_callers_at : (site : Site) (n : ℕ) → caller_posts (posts_at (client_post site) n) ≡ 0
unfolding caller_posts
no_callers_at site zero = refl
no_callers_at site (suc n) =
    let rest = no_callers_at site n in
    let all = callers_append (posts_at (client_post site) n) (client_post site n ∷ []) in
    omega (arith, rest, all)

feed_clients : (feed : Option Feeding) → client_posts (feed_posts feed) ≡ 0
unfolding client_posts
feed_clients None = refl
feed_clients (Some f) = refl

feed_callers : (feed : Option Feeding) → caller_posts (feed_posts feed) ≡ feed_jobs feed
unfolding caller_posts
feed_callers None = refl
feed_callers (Some f) = refl

-- as many as there are workers at either
all_clients : (site : Site) → client_posts (posts_of site) ≡ site.workers
unfolding client_posts
all_clients site =
    let first = posts_at (client_post site) site.workers in
    let namerd = posts_at (interface_post Namerd site.namerd) 2 in
    let admin = posts_at (interface_post (Admin true) site.admin) 2 in
    let a = clients_append (main_posts site) (feed_posts site.feed) in
    let b = clients_append (first ++ namerd) admin in
    let c = clients_append first namerd in
    let d = clients_at site site.workers in
    let e = feed_clients site.feed in
    omega (arith, a, b, c, d, e)

all_callers : (site : Site) → caller_posts (posts_of site) ≡ interface_jobs site
unfolding caller_posts
all_callers site =
    let first = posts_at (client_post site) site.workers in
    let namerd = posts_at (interface_post Namerd site.namerd) 2 in
    let admin = posts_at (interface_post (Admin true) site.admin) 2 in
    let a = callers_append (main_posts site) (feed_posts site.feed) in
    let b = callers_append (first ++ namerd) admin in
    let c = callers_append first namerd in
    let d = no_callers_at site site.workers in
    let e = feed_callers site.feed in
    omega (arith, a, b, c, d, e)

module _ {P J L D C K S X A B E F : Type 0} {h : Handled J} {g : Ghosts J} (state : L → Listening P)
    (upstream : D → Upstream) (to_come : C → Option (List ℕ)) (calls : S → ℕ) (policy : Policy)
    (moments : Option (List ℕ)) (told : Option (Returns P)) where
  one_hand : (post : Post) (j : RouterJob P J L D C K S X A B E F h g)
      → IsPosted state upstream to_come calls policy moments told post j
      → (length (client_hand j) ≡ client_posts (post ∷ []))
      × (length (caller_hand j) ≡ caller_posts (post ∷ []))
  unfolding client_posts caller_posts
  one_hand (clients endpoint seed) (job.Proxy j) posted = (refl, refl)
  one_hand (clients endpoint seed) (job.Api j) posted = absurd posted
  one_hand (interface which endpoint) (job.Proxy j) posted = absurd posted
  one_hand (interface which endpoint) (job.Api j) posted = (refl, refl)

  count_hands : (posts : List Post) (jobs : List (RouterJob P J L D C K S X A B E F h g))
      → AllZip (IsPosted state upstream to_come calls policy moments told) posts jobs
      → (length (client_hands jobs) ≡ client_posts posts)
      × (length (caller_hands jobs) ≡ caller_posts posts)
  unfolding client_posts caller_posts
  count_hands [] [] all = (refl, refl)
  count_hands [] (j ∷ js) all = absurd all
  count_hands (p ∷ ps) [] all = absurd all
  count_hands (p ∷ ps) (j ∷ js) all =
      let one = one_hand p j all.0 in
      let others = count_hands ps js all.1 in
      let a = clients_append (p ∷ []) ps in
      let b = callers_append (p ∷ []) ps in
      let c = length-append (client_hand j) (client_hands js) in
      let d = length-append (caller_hand j) (caller_hands js) in
      (omega (arith, one.0, others.0, a, c), omega (arith, one.1, others.1, b, d))

  -- a hand for each worker
  pub hands_of_site : (site : Site) (jobs : List (RouterJob P J L D C K S X A B E F h g))
      → AllZip (IsPosted state upstream to_come calls policy moments told) (posts_of site) jobs
      → (length (client_hands jobs) ≡ site.workers)
      × (length (caller_hands jobs) ≡ interface_jobs site)
  hands_of_site site jobs all =
      let hands = count_hands (posts_of site) jobs all in
      let a = all_clients site in
      let b = all_callers site in
      (omega (arith, hands.0, a), omega (arith, hands.1, b))

  -- where there were none before, the parts are those of all jobs
  pub parts_of_site : (site : Site) (jobs : List (RouterJob P J L D C K S X A B E F h g))
      (empty apart : Apart J L D S K A B E F g)
      → AllZip (IsPosted state upstream to_come calls policy moments told) (posts_of site) jobs
      → length jobs ≡ jobs_of site → IsEmpty empty → CountsParts jobs empty apart
      → HasParts site apart
  parts_of_site site jobs empty apart posted count none counts =
      let hands = hands_of_site site jobs posted in
      let parts = counts.parts in
      let clients = counts.clients in
      let callers = counts.callers in
      let no_parts : length empty.parts.items ≡ 0 = ap length none.parts in
      let no_clients : length empty.client_hands.items ≡ 0 = ap length none.client_hands in
      let no_callers : length empty.caller_hands.items ≡ 0 = ap length none.caller_hands in
      record {
        parts = omega (arith, parts, no_parts, count);
        clients = omega (arith, clients, no_clients, hands.0);
        callers = omega (arith, callers, no_callers, hands.1);
      }
