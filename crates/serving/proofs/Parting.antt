-- Jobs that are taken apart, one after another.
use Rattle.std.proofs.Common.{◌≡◌, ℕ, suc, ◌≤◌, ◌||◌, Bool, true, false, List, [], ◌∷◌, ◌++◌}
use Rattle.std.proofs.Common.{append_assoc, append-nil, length, length-append, map, refl, sym, ap}
use Rattle.std.proofs.Common.{subst}
use Rattle.std.proofs.Common.{◌∙◌, arith}
use Rattle.std.specs.List.{list_any}
use Rattle.line_base.specs.Accepts.{Listening}
use Rattle.line_base.specs.Dials.{Upstream}
use Rattle.line_base.specs.Nets.{Ended}
use Rattle.client_stays.specs.declared.handling.Handling.{Ghosts as Handled}
use Rattle.router.specs.declared.naming.Naming.{Ghosts}
use Rattle.router.specs.declared.pass.Pass.{Pass}
use Rattle.router.proofs.Closing.{map_length}
use Rattle.waiting.specs.declared.hand.Hand.{Hand}
use Rattle.serving.specs.declared.parts.Apart.{Apart}
use Rattle.serving.specs.Jobs.{RouterJob, caller_hand, caller_hands, client_hand, client_hands}
use Rattle.serving.specs.Jobs.{ended_of, lacked_of, pass_of, recorder_of, recorders_of_jobs}
use Rattle.serving.specs.Parts.{CountsParts, HasRoom, TakesApart, ended_by}
use Rattle.serving.proofs.Zipping.{or_assoc}

or_none : (a : Bool) → a ≡ (a || false)
or_none true = refl
or_none false = refl

module _ {J L D S K A B E F : Type 0} {g : Ghosts J} where
  pub same_room : (a : Apart J L D S K A B E F g) (m n : ℕ) → m ≡ n → HasRoom a m → HasRoom a n
  same_room a m n same room = subst (HasRoom a) same room

  -- room for so many is room for fewer
  pub room_for_fewer : (a : Apart J L D S K A B E F g) (m n : ℕ) → n ≤ m → HasRoom a m
      → HasRoom a n
  room_for_fewer a m n fewer room =
      let parts = room.parts in
      let passes = room.passes in
      let recorders = room.recorders in
      let clients = room.client_hands in
      let callers = room.caller_hands in
      record {
        parts = omega (arith, parts, fewer);
        passes = omega (arith, passes, fewer);
        recorders = omega (arith, recorders, fewer);
        client_hands = omega (arith, clients, fewer);
        caller_hands = omega (arith, callers, fewer);
      }

  -- room for so many is room for one of them
  pub room_for_one : (a : Apart J L D S K A B E F g) (m n : ℕ) → m ≡ suc n → HasRoom a m
      → HasRoom a 1
  room_for_one a m n same room =
      let parts = room.parts in
      let passes = room.passes in
      let recorders = room.recorders in
      let clients = room.client_hands in
      let callers = room.caller_hands in
      record {
        parts = omega (arith, parts, same);
        passes = omega (arith, passes, same);
        recorders = omega (arith, recorders, same);
        client_hands = omega (arith, clients, same);
        caller_hands = omega (arith, callers, same);
      }

module _ {P J L D C K S X A B E F : Type 0} {h : Handled J} {g : Ghosts J} (state : L → Listening P)
    (upstream : D → Upstream) (calls : S → ℕ) where
  -- of no job anything is taken
  pub takes_none : (jobs : List (RouterJob P J L D C K S X A B E F h g))
      (apart : Apart J L D S K A B E F g) → length jobs ≡ 0
      → TakesApart state upstream calls jobs apart apart
  takes_none [] apart none = record {
    parts = sym (append-nil (map (ended_by state upstream calls) apart.parts.items));
    passes = sym (append-nil apart.passes.items);
    recorders = sym (append-nil apart.recorders.items);
    clients = sym (append-nil apart.client_hands.items);
    callers = sym (append-nil apart.caller_hands.items);
    lacked = or_none apart.lacked_memory;
  }
  takes_none (j ∷ jobs) apart none = let no : ⊥ = omega (arith, none) in absurd no

  -- one is taken apart, and then the others
  pub takes_on : (j : RouterJob P J L D C K S X A B E F h g)
      (jobs : List (RouterJob P J L D C K S X A B E F h g))
      (old mid new : Apart J L D S K A B E F g)
      → TakesApart state upstream calls (j ∷ []) old mid
      → TakesApart state upstream calls jobs mid new
      → TakesApart state upstream calls (j ∷ jobs) old new
  takes_on j jobs old mid new one others = record {
    parts = others.parts
        ∙ (ap (λ (es : List (Ended P)). es ++ map (ended_of state upstream calls) jobs) one.parts
        ∙ append_assoc (map (ended_by state upstream calls) old.parts.items)
        (ended_of state upstream calls j ∷ []) (map (ended_of state upstream calls) jobs));
    passes = others.passes
        ∙ (ap (λ (ps : List (Pass J g)). ps ++ map pass_of jobs) one.passes
        ∙ append_assoc old.passes.items (pass_of j ∷ []) (map pass_of jobs));
    recorders = others.recorders
        ∙ (ap (λ (ks : List K). ks ++ recorders_of_jobs jobs) one.recorders
        ∙ (append_assoc old.recorders.items (recorder_of j ++ []) (recorders_of_jobs jobs)
        ∙ ap (λ (ks : List K). old.recorders.items ++ ks)
        (append_assoc (recorder_of j) [] (recorders_of_jobs jobs))));
    clients = others.clients
        ∙ (ap (λ (hs : List (Hand A B)). hs ++ client_hands jobs) one.clients
        ∙ (append_assoc old.client_hands.items (client_hand j ++ []) (client_hands jobs)
        ∙ ap (λ (hs : List (Hand A B)). old.client_hands.items ++ hs)
        (append_assoc (client_hand j) [] (client_hands jobs))));
    callers = others.callers
        ∙ (ap (λ (hs : List (Hand E F)). hs ++ caller_hands jobs) one.callers
        ∙ (append_assoc old.caller_hands.items (caller_hand j ++ []) (caller_hands jobs)
        ∙ ap (λ (hs : List (Hand E F)). old.caller_hands.items ++ hs)
        (append_assoc (caller_hand j) [] (caller_hands jobs))));
    lacked = others.lacked
        ∙ (ap (λ (b : Bool). b || list_any lacked_of jobs) one.lacked
        ∙ (or_assoc old.lacked_memory (lacked_of j || false) (list_any lacked_of jobs)
        ∙ ap (λ (b : Bool). old.lacked_memory || b)
        (or_assoc (lacked_of j) false (list_any lacked_of jobs))));
  }

  -- the first of those that are left
  pub takes_first : (j : RouterJob P J L D C K S X A B E F h g)
      (whole rest all : List (RouterJob P J L D C K S X A B E F h g))
      (first old new : Apart J L D S K A B E F g) → whole ≡ j ∷ rest
      → TakesApart state upstream calls (j ∷ []) old new
      → ((end : Apart J L D S K A B E F g) → TakesApart state upstream calls whole old end
      → TakesApart state upstream calls all first end)
      → (end : Apart J L D S K A B E F g) → TakesApart state upstream calls rest new end
      → TakesApart state upstream calls all first end
  takes_first j whole rest all first old new cut one so_far end others =
      so_far end (subst (λ (js : List (RouterJob P J L D C K S X A B E F h g)).
      TakesApart state upstream calls js old end) (sym cut)
      (takes_on j rest old new end one others))

  -- there are so many parts more
  pub counts_parts : (jobs back : List (RouterJob P J L D C K S X A B E F h g))
      (old new : Apart J L D S K A B E F g) → TakesApart state upstream calls back old new
      → length back ≡ length jobs → length (client_hands back) ≡ length (client_hands jobs)
      → length (caller_hands back) ≡ length (caller_hands jobs) → CountsParts jobs old new
  counts_parts jobs back old new took count clients callers = record {
    parts =
        let all = ap length took.parts in
        let a = map_length (ended_by state upstream calls) new.parts.items in
        let b = map_length (ended_by state upstream calls) old.parts.items in
        let c = map_length (ended_of state upstream calls) back in
        let d = length-append (map (ended_by state upstream calls) old.parts.items)
        (map (ended_of state upstream calls) back) in
        omega (arith, all, a, b, c, d, count);
    clients =
        let all = ap length took.clients in
        let d = length-append old.client_hands.items (client_hands back) in
        omega (arith, all, d, clients);
    callers =
        let all = ap length took.callers in
        let d = length-append old.caller_hands.items (caller_hands back) in
        omega (arith, all, d, callers);
  }
