-- A service for which the book has no room when a router begins.
use Rattle.std.proofs.Common.{◌≡◌, ℕ, suc, ◌+◌, ◌<◌, ◌≤◌, ◌^◌, ◌==◌, ◌&&◌, not, Bool, true, false}
use Rattle.std.proofs.Common.{List, [], ◌∷◌, ◌++◌, length, length-append, map, ap, arith, sym}
use Rattle.std.proofs.Common.{subst, ◌∙◌, refl, inl, inr, Option, Some, None, slice_get}
use Rattle.std.specs.Prelude.{◌⊎◌, All, fold, filter, if◌then◌else◌, is_none, option_map, sum_by}
use Rattle.std.specs.Prelude.{IsOk, IsSome, OnOk, Result, Ok, Err}
use Rattle.std.specs.List.{AllByRecursion}
use Rattle.std.specs.Option.{option_to_list}
use Rattle.std.proofs.lemmas.Bool.Decides.{nat_tests}
use Rattle.std.proofs.lemmas.List.{append-nil}
use Rattle.std.proofs.lemmas.List.Elements.{All-head, filter-append}
use Rattle.std.proofs.lemmas.List.Sums.{sum_by-append, sum_by-cons}
use mathlib.Core.List.{IsPrefix}
use Rattle.addr_book.specs.declared.fault.BookFault.{BookFault}
use Rattle.addr_book.specs.BookFault.{set_refusal}
use Rattle.linker_config.specs.declared.loaded.LoadedItem.{LoadedItem}
use Rattle.machine.specs.Code.{reply_value}
use Rattle.machine.specs.State.{after, book_reply, decided, is_accepted, last_place, opening}
use Rattle.machine.specs.Values.{SettingsValue, StateValue, ChangeValue, ReplyValue, set_to}
use Rattle.machine.specs.declared.reply.Reply.{Reply}
use Rattle.machine.specs.declared.reply.Reply.TheVariants as replies
use Rattle.one_history.specs.Entries.{changes_made}
use Rattle.one_history.proofs.Growing.{changes_grown}
use Rattle.router.specs.declared.naming.Naming.{Ghosts}
use Rattle.router.specs.declared.pass.Pass.{Pass}
use Rattle.router.specs.Changing.{IsChanged}
use Rattle.router.specs.Closing.{IsClosed, IsOf}
use Rattle.router.specs.Opening.{AreNew}
use Rattle.router.specs.Passes.{items_in, made_in, number_in, seen_in, SawMore}
use Rattle.router.proofs.Closing.{map_length}
use Rattle.router_log.specs.Call.{Call, publishes}
use Rattle.router_log.specs.Operation.{Operation, changed, kept, is_change, place_of}
use Rattle.router_log.specs.Value.{Value, AllFit, applied, opening_value, value_of}
use Rattle.router_log.proofs.Places.{fit_front, place_is}
use Rattle.serving.specs.Services.{AreAccepted, BookRefuses, HasNoRoom, IsTurnedAway, StandIn}
use Rattle.serving.specs.Services.{StopsAmong, StopsAt, setting, state_behind}
use Rattle.serving.proofs.Services.{AreSet, fewer_before, made_where, prefix_trans, stand_count}
use Rattle.serving.proofs.Services.{stands_later}

-- what holds of a success holds, where there was one
pub holds_if_ok : {T E : Type 0} (done : Result T E) (P : Type 0) → IsOk done → OnOk done P → P
holds_if_ok (Ok x) P is holds = holds
holds_if_ok (Err e) P is holds = cc is

-- ---- one service
set_only : (reply : Reply) (n : ℕ) → reply_value reply ≡ set_to n → reply ≡ replies.Set n
set_only (replies.Set m) n is = cc is
set_only reply n is = cc is

-- what is not accepted is refused by the book, or by the history
turned : (state : StateValue) (refused : Option BookFault) (n : ℕ) (said : ReplyValue)
    → said ≡ decided state (option_map book_reply refused) (set_to n) → (said ≡ set_to n → ⊥)
    → (IsSome refused ⊎ (state.place ≡ last_place))
    × ((is_none (option_map book_reply refused) && not (state.place == last_place)) ≡ false)
turned state (Some fault) n said is other = (inl refl, refl)
turned state None n said is other = spent (state.place == last_place) refl
  where
    spent : (t : Bool) → (state.place == last_place) ≡ t
        → (IsSome {T = BookFault} None ⊎ (state.place ≡ last_place))
        × ((true && not (state.place == last_place)) ≡ false)
    spent true e = (inr (grind (arith, nat_tests, e)), rw e refl)
    spent false e = absurd (other (is ∙ rw e refl))

nothing_published : (b : Bool) (before after : List Operation) (op : Operation) → b ≡ false
    → after ≡ before ++ option_to_list (if b then Some op else None) → after ≡ before
nothing_published true before after op sure is = cc sure
nothing_published false before after op sure is = is ∙ append-nil before

module _ {J : Type 0} {g : Ghosts J} where
  -- a service that is not set was refused in the state that the pass has seen then, and no change
  -- was made
  pub set_refused : (old new : Pass J g) (item : LoadedItem) (reply : Reply)
      → IsChanged old new (setting item) reply → ((n : ℕ) → reply ≡ replies.Set n → ⊥)
      → (made_in new ≡ made_in old) × IsTurnedAway (value_of g.settings (seen_in new)).state item
  set_refused old new item reply c other =
      let state = (value_of g.settings c.before).state in
      let n = length item.list in
      let away = turned state (set_refusal state.book item.service item.list) n
      (reply_value reply) c.answered (λ is. other n (set_only reply n is)) in
      let op = changed (number_in old) (made_in old) (setting item) in
      let seen : seen_in new ≡ c.before =
      nothing_published (is_accepted state (setting item)) c.before
      (seen_in new) op away.1 c.seen in (
        made_where (is_accepted state (setting item)) false (made_in new) (made_in old + 1)
            (made_in old) away.1 c.made,
        subst (λ (ops : List Operation). IsTurnedAway (value_of g.settings ops).state item)
            (sym seen) away.0,
      )

-- ---- all of them
-- the services before the first that is refused
pub stops_at : (settings : SettingsValue) (all whole rest : List LoadedItem) (item : LoadedItem)
    (old new : List Operation) (made now later : ℕ) → length all < 2 ^ 64 → whole ≡ item ∷ rest
    → AreSet all whole old made now → IsPrefix old new
    → (later ≡ now) × IsTurnedAway (value_of settings new).state item
    → StopsAt settings all new made later
stops_at settings all whole rest item old new made now later few cut set front away = record {
  done = set.done;
  refused = item;
  rest = rest;
  parts = ap (λ (items : List LoadedItem). set.done ++ items) (sym cut) ∙ set.items;
  few = few;
  stand = stands_later old new (map setting set.done) front set.stand;
  count = away.0 ∙ set.count;
  cause = away.1;
}

module _ {J : Type 0} {g : Ghosts J} where
  -- a pass that saw more made no more
  pub same_made : (a b : Pass J g) → number_in b ≡ number_in a → SawMore a b → made_in b ≡ made_in a
  same_made a b number saw =
      let At : ℕ → List Operation → List (Call × ℕ) → ℕ =
      λ n ops items. changes_made is_change (publishes g.settings) n ops items in
      let more = saw.seen in
      ap (λ (n : ℕ). At n (seen_in b) (items_in b)) number
      ∙ (ap (λ (items : List (Call × ℕ)). At (number_in a) (seen_in b) items) saw.items
      ∙ (ap (λ (ops : List Operation). At (number_in a) ops (items_in a)) (sym more.1)
      ∙ changes_grown is_change (publishes g.settings) (number_in a) (seen_in a) more.0 0 0
      (items_in a) a.stands.placed.within))

  -- new passes made nothing
  pub new_made : (ps : List (Pass J g))
      → ((i : ℕ) (p : Pass J g) → slice_get ps i ≡ Some p → items_in p ≡ []) → sum_by made_in ps ≡ 0
  new_made [] new = refl
  new_made (p ∷ ps) new =
      let here : made_in p ≡ 0 =
      ap (λ (items : List (Call × ℕ)). changes_made is_change (publishes g.settings) (number_in p)
      (seen_in p) items) (new 0 p refl) in
      omega (arith, here, new_made ps (λ i q is. new (suc i) q is), sum_by-cons made_in p ps)

  -- one pass more
  pub made_push : (whole ps : List (Pass J g)) (p : Pass J g) → whole ≡ ps ++ p ∷ []
      → sum_by made_in whole ≡ sum_by made_in ps + made_in p
  made_push whole ps p is =
      let all = sum_by-append made_in ps (p ∷ []) in
      let one = sum_by-cons made_in p [] in
      omega (arith, ap (sum_by made_in) is, all, one)

  -- one pass went from those that wait to those that met, and made no more
  pub made_moved : (met whole rest more : List (Pass J g)) (p q : Pass J g) (all : ℕ)
      → whole ≡ p ∷ rest → more ≡ met ++ q ∷ [] → made_in q ≡ made_in p
      → sum_by made_in met + sum_by made_in whole ≡ all
      → sum_by made_in more + sum_by made_in rest ≡ all
  made_moved met whole rest more p q all cut grown same sums =
      let now = made_push more met q grown in
      let before = sum_by-cons made_in p rest in
      omega (arith, now, before, same, sums, ap (sum_by made_in) cut)

  -- the last pass set services until one was refused, and the others met it
  pub stops_among : (loaded : List LoadedItem) (passes others met all : List (Pass J g))
      (first last later : Pass J g) → passes ≡ others ++ first ∷ [] → all ≡ met ++ later ∷ []
      → StopsAt g.settings loaded (seen_in last) (made_in first) (made_in last)
      → (made_in later ≡ made_in last) × (sum_by made_in met ≡ sum_by made_in others)
      → AllByRecursion (λ p. IsPrefix (seen_in last) (seen_in p)) met
      → IsPrefix (seen_in last) (seen_in later) → StopsAmong loaded passes all
  stops_among loaded passes others met all first last later begun ended stops made seen front =
      let before = made_push passes others first begun in
      let now = made_push all met later ended in
      record {
        seen = seen_in last;
        stops = record {
          done = stops.done;
          refused = stops.refused;
          rest = stops.rest;
          parts = stops.parts;
          few = stops.few;
          stand = stops.stand;
          count = omega (arith, before, now, made.0, made.1, stops.count);
          cause = stops.cause;
        };
        seen_by_all = subst (λ (ps : List (Pass J g)). AllByRecursion
            (λ p. IsPrefix (seen_in last) (seen_in p)) ps) (sym ended) (one_more met seen);
      }
    where
      one_more : (ps : List (Pass J g)) → AllByRecursion
          (λ p. IsPrefix (seen_in last) (seen_in p)) ps
          → AllByRecursion (λ p. IsPrefix (seen_in last) (seen_in p)) (ps ++ later ∷ [])
      one_more [] h = (front, tt)
      one_more (r ∷ rs) h = (h.0, one_more rs h.1)

-- ---- the state then
-- the changes that a list has
abbrev changes_in : List Operation → List ChangeValue
changes_in [] = []
changes_in (changed caller serial change ∷ ops) = change ∷ changes_in ops
changes_in (kept caller serial k ∷ ops) = changes_in ops

changes_count : (ops : List Operation) → length (changes_in ops) ≡ place_of ops
changes_count [] = refl
changes_count (changed caller serial change ∷ ops) = ap suc (changes_count ops)
changes_count (kept caller serial k ∷ ops) = changes_count ops

changes_append : (xs ys : List Operation) → changes_in (xs ++ ys) ≡ changes_in xs ++ changes_in ys
changes_append [] ys = refl
changes_append (changed caller serial change ∷ xs) ys =
    ap (λ (cs : List ChangeValue). change ∷ cs) (changes_append xs ys)
changes_append (kept caller serial k ∷ xs) ys = changes_append xs ys

none_there : (cs : List ChangeValue) → length cs ≡ 0 → cs ≡ []
none_there [] is = refl
none_there (c ∷ cs) is = absurd (omega (arith, is))

-- changes that stand there are all that it has, where it has no more
stand_all : (ops : List Operation) (cs : List ChangeValue) → StandIn ops cs
    → place_of ops ≤ length cs → changes_in ops ≡ cs
stand_all ops [] s few = none_there (changes_in ops) (omega (arith, changes_count ops, few))
stand_all ops (c ∷ cs) s few =
    let op = changed s.1 s.2 c in
    let all : place_of ops ≡ length (filter is_change s.0) + length (op ∷ filter is_change s.3) =
    ap place_of s.4 ∙ (ap length (filter-append is_change s.0 (op ∷ s.3))
    ∙ length-append (filter is_change s.0) (op ∷ filter is_change s.3)) in
    let many = stand_count s.3 cs s.5 in
    let front : changes_in s.0 ≡ [] = none_there (changes_in s.0)
    (omega (arith, changes_count s.0, all, many, few)) in
    let rest : changes_in s.3 ≡ cs = stand_all s.3 cs s.5 (omega (arith, all, few)) in
    ap changes_in s.4 ∙ (changes_append s.0 (op ∷ s.3)
    ∙ (ap (λ (ds : List ChangeValue). ds ++ c ∷ changes_in s.3) front
    ∙ ap (λ (ds : List ChangeValue). c ∷ ds) rest))

applied_state : (settings : SettingsValue) (value : Value) (caller serial : ℕ)
    (change : ChangeValue)
    → (applied settings value (changed caller serial change)).state
    ≡ after settings value.state change
applied_state settings value caller serial change = by_answer (is_accepted value.state change) refl
  where
    by_answer : (t : Bool) → is_accepted value.state change ≡ t
        → (applied settings value (changed caller serial change)).state
        ≡ after settings value.state change
    by_answer true e = rw e refl
    by_answer false e = rw e refl

-- a list comes to the state that its changes leave
state_from : (settings : SettingsValue) (value : Value) (ops : List Operation)
    → (fold (applied settings) value ops).state ≡ fold (after settings) value.state (changes_in ops)
state_from settings value [] = refl
state_from settings value (changed caller serial change ∷ ops) =
    state_from settings (applied settings value (changed caller serial change)) ops
    ∙ ap (λ (s : StateValue). fold (after settings) s (changes_in ops))
    (applied_state settings value caller serial change)
state_from settings value (kept caller serial k ∷ ops) =
    state_from settings (applied settings value (kept caller serial k)) ops

accepted_from : (settings : SettingsValue) (value : Value) (ops : List Operation)
    → AllFit settings value ops → AreAccepted settings value.state (changes_in ops)
accepted_from settings value [] fit = tt
accepted_from settings value (changed caller serial change ∷ ops) fit = (
  fit.0,
  subst (λ (s : StateValue). AreAccepted settings s (changes_in ops))
      (applied_state settings value caller serial change)
      (accepted_from settings (applied settings value (changed caller serial change)) ops fit.1),
)
accepted_from settings value (kept caller serial k ∷ ops) fit =
    accepted_from settings (applied settings value (kept caller serial k)) ops fit.1

no_room : (state : StateValue) (item : LoadedItem) → IsTurnedAway state item
    → (state.place ≡ last_place → ⊥) → HasNoRoom state item
no_room state item (inl away) room = away
no_room state item (inr spent) room = absurd (room spent)

fewer_parts : (done rest all : List LoadedItem) (item : LoadedItem) → done ++ item ∷ rest ≡ all
    → length all < 2 ^ 64 → length done < last_place
fewer_parts done rest all item is few =
    omega (arith, ap length is, length-append done (item ∷ rest), few)

-- the list has no changes but those that set the services
book_refuses : (settings : SettingsValue) (loaded : List LoadedItem) (ops seen : List Operation)
    (now : ℕ) → StopsAt settings loaded seen 0 now → IsPrefix seen ops
    → AllFit settings opening_value ops
    → place_of ops ≡ now → BookRefuses settings loaded
book_refuses settings loaded ops seen now stops front fit count =
    let cs = map setting stops.done in
    let fit_then : AllFit settings opening_value seen =
    fit_front settings opening_value seen front.0
    (subst (AllFit settings opening_value) (sym front.1) fit) in
    let few = fewer_before seen ops front in
    let all : changes_in seen ≡ cs = stand_all seen cs stops.stand
    (omega (arith, few, count, stops.count, map_length setting stops.done)) in
    let state : (value_of settings seen).state ≡ state_behind settings stops.done =
    state_from settings opening_value seen ∙ ap (fold (after settings) opening) all in
    let place = place_is settings seen fit_then in
    let room = fewer_parts stops.done stops.rest loaded stops.refused stops.parts stops.few in
    record {
      done = stops.done;
      refused = stops.refused;
      rest = stops.rest;
      parts = stops.parts;
      accepted = subst (AreAccepted settings opening) all
          (accepted_from settings opening_value seen fit_then);
      cause = subst (λ (s : StateValue). HasNoRoom s stops.refused) state
          (no_room (value_of settings seen).state stops.refused stops.cause
          (λ spent. absurd (omega (arith, spent, place, few, count, stops.count, room))));
    }

module _ {J : Type 0} {g : Ghosts J} where
  seen_before : (ops seen : List Operation) (ps : List (Pass J g)) → 0 < length ps
      → AllByRecursion (λ p. IsPrefix seen (seen_in p)) ps → All (IsOf ops) ps → IsPrefix seen ops
  seen_before ops seen [] some all of = absurd (omega (arith, some))
  seen_before ops seen (p ∷ ps) some all of = let one = All-head (IsOf ops) p ps of in
      prefix_trans seen (seen_in p) ops all.0 one.seen

  -- the router that ends then had no other changes
  pub refused_at_end : (loaded : List LoadedItem) (passes met : List (Pass J g)) (place : ℕ)
      → AreNew passes → 0 < length met → StopsAmong loaded passes met → IsClosed place met
      → BookRefuses g.settings loaded
  refused_at_end loaded passes met place new some stops closed =
      let none = new_made passes (λ i p is. let n = new i p is in n.items) in
      let begun : StopsAt g.settings loaded stops.seen 0 (sum_by made_in met) =
      subst (λ (n : ℕ). StopsAt g.settings loaded stops.seen n (sum_by made_in met)) none
      stops.stops in
      book_refuses g.settings loaded closed.ops stops.seen (sum_by made_in met) begun
      (seen_before closed.ops stops.seen met some stops.seen_by_all closed.passes_are) closed.fit
      (closed.place_is ∙ sym closed.made)
