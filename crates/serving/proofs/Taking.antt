-- A job is taken apart.
use Rattle.std.proofs.Common.{◌≡◌, ℕ, suc, ◌+◌, ◌≤◌, ◌||◌, Bool, true, false, List, [], ◌∷◌, ◌++◌}
use Rattle.std.proofs.Common.{None, Some, append-nil, arith, map, refl, sym, ap, subst, ◌∙◌}
use Rattle.std.specs.Prelude.{Option}
use Rattle.line_base.specs.Accepts.{Listening}
use Rattle.line_base.specs.Dials.{Upstream}
use Rattle.line_base.specs.Nets.{Ended}
use Rattle.client_stays.specs.declared.handling.Handling.{Ghosts as Handled}
use Rattle.router.specs.declared.naming.Naming.{Ghosts}
use Rattle.router.specs.declared.pass.Pass.{Pass}
use Rattle.serving.specs.declared.job.ApiJob.{ApiJob}
use Rattle.serving.specs.declared.job.ProxyJob.{ProxyJob}
use Rattle.serving.specs.declared.job.ServingJob.TheVariants as jobs
use Rattle.serving.specs.declared.parts.Apart.{Apart}
use Rattle.serving.specs.declared.parts.Part.{Part}
use Rattle.serving.specs.Jobs.{RouterJob}
use Rattle.serving.specs.Parts.{TakesApart, ended_by}

-- room for one more is room for the others behind one
pub room_behind_one : (had now room room_now n : ℕ) → now ≡ had + 1 → room_now ≡ room
    → had + suc n ≤ room → now + n ≤ room_now
room_behind_one had now room room_now n more kept fit = omega (arith, more, kept, fit)

pub room_as_before : (had room n : ℕ) → had + suc n ≤ room → had + n ≤ room
room_as_before had room n fit = omega (arith, fit)

or_none : (a b : Bool) → (a || b) ≡ (a || (b || false))
or_none a true = refl
or_none a false = refl

map_push : {A B : Type 0} (f : A → B) (xs : List A) (x : A) → map f (xs ++ x ∷ [])
    ≡ map f xs ++ f x ∷ []
map_push f [] x = refl
map_push f (y ∷ xs) x = ap (λ (zs : List _). f y ∷ zs) (map_push f xs x)

abbrev part_of : {L D S : Type 0} → L → Option D → S → Part L D S
part_of listener dialer stop = record { listener = listener; dialer = dialer; stop = stop }

module _ {P J L D C K S X A B E F : Type 0} {h : Handled J} {g : Ghosts J} (state : L → Listening P)
    (upstream : D → Upstream) (calls : S → ℕ) where
  -- one that served clients
  pub takes_proxy : (job : RouterJob P J L D C K S X A B E F h g)
      (one : ProxyJob P J L D C K S A B h g) (old new : Apart J L D S K A B E F g) (dialer : D)
      (pass : Pass J g) → job ≡ jobs.Proxy one → dialer ≡ one.server.server.way.dialer
      → pass ≡ one.server.server.pass
      → new.parts.items ≡ old.parts.items ++ part_of one.listener (Some dialer) one.stop ∷ []
      → new.passes.items ≡ old.passes.items ++ pass ∷ []
      → new.recorders.items ≡ old.recorders.items ++ one.server.recorder ∷ []
      → new.client_hands.items ≡ old.client_hands.items ++ one.hand ∷ []
      → new.caller_hands.items ≡ old.caller_hands.items
      → new.lacked_memory ≡ (old.lacked_memory || one.server.lacked_memory)
      → TakesApart state upstream calls (job ∷ []) old new
  takes_proxy job one old new dialer pass is dials passes_on parts passes recorders clients callers
      lacked =
      let ended = ended_by state upstream calls in
      let part = part_of one.listener (Some dialer) one.stop in
      let e : D → Ended P =
      λ d. record {
        listener = state one.listener;
        log = (upstream d).log;
        stops = calls one.stop;
      } in
      let taken : TakesApart state upstream calls (jobs.Proxy one ∷ []) old new = record {
        parts = ap (map ended) parts ∙ (map_push ended old.parts.items part
            ∙ ap (λ (d : D). map ended old.parts.items ++ e d ∷ []) dials);
        passes = passes ∙ ap (λ (p : Pass J g). old.passes.items ++ p ∷ []) passes_on;
        recorders = recorders;
        clients = clients;
        callers = callers ∙ sym (append-nil old.caller_hands.items);
        lacked = lacked ∙ or_none old.lacked_memory one.server.lacked_memory;
      } in
      subst (λ (j : RouterJob P J L D C K S X A B E F h g).
      TakesApart state upstream calls (j ∷ []) old new) (sym is) taken

  -- one that served an interface
  pub takes_api : (job : RouterJob P J L D C K S X A B E F h g) (one : ApiJob P J L S X E F g)
      (old new : Apart J L D S K A B E F g) → job ≡ jobs.Api one
      → new.parts.items ≡ old.parts.items
      ++ part_of one.listener None one.server.worker.stop ∷ []
      → new.passes.items ≡ old.passes.items ++ one.server.worker.pass ∷ []
      → new.recorders.items ≡ old.recorders.items
      → new.client_hands.items ≡ old.client_hands.items
      → new.caller_hands.items ≡ old.caller_hands.items ++ one.hand ∷ []
      → new.lacked_memory ≡ (old.lacked_memory || one.server.lacked_memory)
      → TakesApart state upstream calls (job ∷ []) old new
  takes_api job one old new is parts passes recorders clients callers lacked =
      let ended = ended_by state upstream calls in
      let part = part_of {D = D} one.listener None one.server.worker.stop in
      let taken : TakesApart state upstream calls (jobs.Api one ∷ []) old new = record {
        parts = ap (map ended) parts ∙ map_push ended old.parts.items part;
        passes = passes;
        recorders = recorders ∙ sym (append-nil old.recorders.items);
        clients = clients ∙ sym (append-nil old.client_hands.items);
        callers = callers;
        lacked = lacked ∙ or_none old.lacked_memory one.server.lacked_memory;
      } in
      subst (λ (j : RouterJob P J L D C K S X A B E F h g).
      TakesApart state upstream calls (j ∷ []) old new) (sym is) taken
