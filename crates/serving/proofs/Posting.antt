-- New listeners get their jobs.
use Rattle.std.proofs.Common.{◌≡◌, ℕ, suc, ◌+◌, ◌^◌, ◌<◌, true, List, [], ◌∷◌, ◌++◌, length, refl}
use Rattle.std.proofs.Common.{sym, ap, subst, ◌∙◌, arith, Some, None}
use Rattle.std.specs.Prelude.{Option, option_map, slice_index_or}
use Rattle.std.specs.List.{AllZip}
use Rattle.line_base.specs.Accepts.{Listening}
use Rattle.line_base.specs.Nets.{AreNew, IsNew, Networking, Returns, after_stopper, with_room}
use Rattle.linker_config.specs.declared.config.Port.{Port}
use Rattle.line_base.specs.declared.listener.Endpoint.{Endpoint}
use Rattle.api_sessions.specs.declared.which.Which.TheVariants.{Namerd, Admin}
use Rattle.serving.specs.Posts.{Post, client_post, endpoint_at, feed_jobs, interface_post, jobs_of}
use Rattle.serving.specs.Posts.{main_posts, posts_at}
use Rattle.serving.specs.Returning.{listened, with_stops}
use Rattle.serving.specs.declared.bound.Bound.{Bound}
use Rattle.serving.specs.declared.site.Feeding.{Feeding}
use Rattle.serving.specs.declared.site.Site.{Site}
use Rattle.serving.specs.Running.{AreNewFeed, AreNewFrom, Listens}
use Rattle.serving.proofs.Returning.{given_told, listened_more, more_stops, room_made}

module _ {P L : Type 0} (state : L → Listening P) (told : Option (Returns P)) (port : Port) where
  -- the next one, and those behind it
  pub next_new : (n m : ℕ) (whole rest : List L) (l : L) → m ≡ n + 1 → whole ≡ l ∷ rest
      → AreNewFrom state told port n whole
      → IsNew told (endpoint_at port n) (state l) × AreNewFrom state told port m rest
  next_new n m whole rest l next cut all =
      let e : m ≡ suc n = omega (arith, next) in
      let both = subst (AreNewFrom state told port n) cut all in
      (both.0, subst (λ (k : ℕ). AreNewFrom state told port k rest) (sym e) both.1)

  each_from : (n : ℕ) (ls : List L)
      → ((at : ℕ) (d : L) (place : ℕ) → at < length ls → place ≡ n + at
      → IsNew told (endpoint_at port place) (state (slice_index_or ls at d)))
      → AreNewFrom state told port n ls
  each_from n [] each = tt
  each_from n (l ∷ ls) each = (
    each 0 l n (omega arith) (omega arith),
    each_from (suc n) ls (λ at d place less is. each (suc at) d place (omega (arith, less))
        (omega (arith, is))),
  )

  pub new_from : (ls : List L) → AreNew state told port.ip port.port ls
      → AreNewFrom state told port 0 ls
  new_from ls new = each_from 0 ls (λ at d place less is.
      let e : at ≡ place = omega (arith, is) in
      subst (λ (k : ℕ). IsNew told (endpoint_at port k) (state (slice_index_or ls at d))) e
      (new at d less))

-- listeners are new for a net that can tell more
still_new : {P : Type 0} (f : Returns P → Returns P) (told : Option (Returns P))
    (endpoint : Endpoint) (l : Listening P) → IsNew told endpoint l
    → IsNew (option_map f told) endpoint l
still_new f None endpoint l n =
    record {
      none_yet = n.none_yet;
      closes = n.closes;
      accepted = n.accepted;
      finished = n.finished;
      run = n.run;
      knows = tt;
      tells = tt;
    }
still_new f (Some r) endpoint l n =
    record {
      none_yet = n.none_yet;
      closes = n.closes;
      accepted = n.accepted;
      finished = n.finished;
      run = n.run;
      knows = n.knows;
      tells = n.tells;
    }

all_still_new : {P L : Type 0} (f : Returns P → Returns P) (state : L → Listening P)
    (told : Option (Returns P)) (port : Port) (n : ℕ) (ls : List L)
    → AreNewFrom state told port n ls
    → AreNewFrom state (option_map f told) port n ls
all_still_new f state told port n [] all = tt
all_still_new f state told port n (l ∷ ls) all = (
  still_new f told (endpoint_at port n) (state l) all.0,
  all_still_new f state told port (suc n)
      ls all.1,
)

-- and once that net has made more listeners
later_new : {P L : Type 0} (state : L → Listening P) (port : Port) (ls : List L) (k : ℕ)
    (old new : Networking P) → new ≡ listened k old → AreNewFrom state old.told port 0 ls
    → AreNewFrom state new.told port 0 ls
later_new state port ls k old new is all =
    subst (λ (n : Networking _). AreNewFrom state n.told port 0 ls) (sym is)
    (all_still_new (with_room k) state old.told port 0 ls all)

main_listened : {P : Type 0} (first second third fourth : Networking P) (k : ℕ)
    → second ≡ listened k first → third ≡ listened 2 second → fourth ≡ listened 2 third
    → fourth ≡ listened (k + 4) first
main_listened first second third fourth k a b c =
    c ∙ (ap (listened 2) b
    ∙ (ap (λ (n : Networking _). listened 2 (listened 2 n)) a
    ∙ (ap (listened 2) (listened_more k 2 (k + 2) first refl)
    ∙ listened_more (k + 2) 2 (k + 4) first (omega arith))))

pub all_listened : {P : Type 0} (first second third fourth last : Networking P) (site : Site)
    → second ≡ listened site.workers first → third ≡ listened 2 second → fourth ≡ listened 2 third
    → last ≡ listened (feed_jobs site.feed) fourth → last ≡ listened (jobs_of site) first
all_listened first second third fourth last site a b c d =
    d ∙ (ap (listened (feed_jobs site.feed))
    (main_listened first second third fourth site.workers a b c)
    ∙ listened_more (site.workers + 4) (feed_jobs site.feed) (jobs_of site) first refl)

-- the listeners of the feed are new for a net that can tell more
feed_still_new : {P L : Type 0} (state : L → Listening P) (feed : Option Feeding) (ls : List L)
    (k : ℕ) (old new : Networking P) → new ≡ listened k old → AreNewFeed state old.told feed ls
    → AreNewFeed state new.told feed ls
feed_still_new state None ls k old new is all = tt
feed_still_new state (Some f) ls k old new is all = later_new state f.port ls k old new is all

-- what listening on the four addresses gave, one after another
pub record Bindings {P L : Type 0} (state : L → Listening P)
    (first second third fourth last : Networking P)
    (site : Site) (b : Bound L) : Type 0 where
  pub one : second ≡ listened site.workers first
  pub two : third ≡ listened 2 second
  pub three : fourth ≡ listened 2 third
  pub four : last ≡ listened (feed_jobs site.feed) fourth
  pub server : AreNewFrom state first.told site.server 0 b.server.items
  pub namerd : AreNewFrom state second.told site.namerd 0 b.namerd.items
  pub admin : AreNewFrom state third.told site.admin 0 b.admin.items
  pub feed : AreNewFeed state fourth.told site.feed b.feed.items

pub listens : {P L : Type 0} (state : L → Listening P)
    (first second third fourth last : Networking P)
    (site : Site) (b : Bound L) → Bindings state first second third fourth last site b
    → (length b.server.items ≡ site.workers) × (length b.namerd.items ≡ 2)
    × (length b.admin.items ≡ 2)
    × (length b.feed.items ≡ feed_jobs site.feed)
    → site.workers < 2 ^ 32 → Listens state last.told site b
listens state first second third fourth last site b all count few =
    let k = feed_jobs site.feed in
    let twice = λ (port : Port) (ls : List _) (new : AreNewFrom state third.told port 0 ls).
    later_new state port ls k fourth last all.four
    (later_new state port ls 2 third fourth all.three new) in
    record {
      server = twice site.server b.server.items
          (later_new state site.server b.server.items 2 second third all.two
          (later_new state site.server b.server.items site.workers first second all.one
          all.server));
      namerd = twice site.namerd b.namerd.items
          (later_new state site.namerd b.namerd.items 2 second third all.two all.namerd);
      admin = twice site.admin b.admin.items all.admin;
      feed = feed_still_new state site.feed b.feed.items k fourth last all.four all.feed;
      count = count;
      few = few;
      room = room_made (jobs_of site) first last
          (all_listened first second third fourth last site all.one all.two all.three all.four);
    }

-- a stop that is handed out changes nothing of what is told
pub told_kept : {P : Type 0} (k : ℕ) (old new : Networking P) → new ≡ with_stops k old → new.told
    ≡ old.told
told_kept k old new is = ap (λ (n : Networking _). n.told) is ∙ given_told k old

-- one stop more is handed out
pub stops_moved : {P L : Type 0} (whole rest : List L) (l : L) (old new all : Networking P) → whole
    ≡ l ∷ rest → new ≡ after_stopper old → with_stops (length whole) old ≡ all
    → with_stops (length rest) new ≡ all
stops_moved whole rest l old new all cut is same =
    ap (λ (n : Networking _). with_stops (length rest) n) is
    ∙ (ap (λ (ls : List _). with_stops (length ls) old) (sym cut) ∙ same)

main_stops : {P : Type 0} (first second third last : Networking P) (a b c k : ℕ)
    → second ≡ with_stops a first → third ≡ with_stops b second → last ≡ with_stops c third
    → a + b + c ≡ k → last ≡ with_stops k first
main_stops first second third last a b c k one two three sum =
    three ∙ (ap (with_stops c) two ∙ (ap (λ (n : Networking _). with_stops c (with_stops b n)) one
    ∙ (ap (with_stops c) (more_stops a b first)
    ∙ (more_stops (a + b) c first ∙ ap (λ (i : ℕ). with_stops i first) sum))))

pub all_stops : {P : Type 0} (first second third fourth last : Networking P) (a b c d k : ℕ)
    → second ≡ with_stops a first → third ≡ with_stops b second → fourth ≡ with_stops c third
    → last ≡ with_stops d fourth → a + b + c + d ≡ k → last ≡ with_stops k first
all_stops first second third fourth last a b c d k one two three four sum =
    four ∙ (ap (with_stops d) (main_stops first second third fourth a b c (a + b + c) one two three
    refl)
    ∙ (more_stops (a + b + c) d first ∙ ap (λ (i : ℕ). with_stops i first) sum))

-- the jobs of the listeners that every router has, whatever is known of them
pub main_posted : {A P : Type 0} (R : Option (Returns P) → Post → A → Type 0) (site : Site)
    (told told_1 told_2 : Option (Returns P)) (a b c : ℕ) (first second third last : List A)
    → told_1 ≡ told → told_2 ≡ told → a ≡ site.workers → b ≡ 2 → c ≡ 2 → first ≡ []
    → ((ps : List Post) → AllZip (R told) ps first
    → AllZip (R told) (ps ++ posts_at (client_post site) a) second)
    → ((ps : List Post) → AllZip (R told_1) ps second
    → AllZip (R told_1) (ps ++ posts_at (interface_post Namerd site.namerd) b) third)
    → ((ps : List Post) → AllZip (R told_2) ps third
    → AllZip (R told_2) (ps ++ posts_at (interface_post (Admin true) site.admin) c) last)
    → AllZip (R told) (main_posts site) last
main_posted {A} {P} R site told told_1 told_2 a b c first second third last same_1 same_2 proxies
    namerd admin none one two three =
    let By : Option (Returns P) → List Post → List A → Type 0 = λ t ps js. AllZip (R t) ps js in
    let nobody : By told [] first = subst (By told []) (sym none) tt in
    let at_proxies = posts_at (client_post site) in
    let at_namerd = posts_at (interface_post Namerd site.namerd) in
    let at_admin = posts_at (interface_post (Admin true) site.admin) in
    let clients = one [] nobody in
    let names =
    two (at_proxies a) (subst (λ (t : Option (Returns P)). By t (at_proxies a) second)
    (sym same_1) clients) in
    let back = subst (λ (t : Option (Returns P)). By t (at_proxies a ++ at_namerd b) third)
    (same_1 ∙ sym same_2) names in
    let all =
    subst (λ (t : Option (Returns P)). By t (at_proxies a ++ at_namerd b ++ at_admin c) last)
    same_2 (three (at_proxies a ++ at_namerd b) back) in
    let counted = subst (λ (n : ℕ). By told (at_proxies n ++ at_namerd b ++ at_admin c) last)
    proxies all in
    let named =
    subst (λ (n : ℕ). By told (at_proxies site.workers ++ at_namerd n ++ at_admin c) last)
    namerd counted in
    subst (λ (n : ℕ). By told (at_proxies site.workers ++ at_namerd 2 ++ at_admin n) last) admin
    named
