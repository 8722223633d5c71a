-- The code's world as it moves.
use Rattle.std.proofs.Common.{Vec, Global, ◌≡◌, get_or, ℕ, zero, suc, ◌+◌, ◌<◌, ◌≤◌, Bool, List, []}
use Rattle.std.proofs.Common.{◌∷◌, ◌++◌, length, map, take, set, true, Some, None, Option, refl}
use Rattle.std.proofs.Common.{arith, ap, sym, ◌∙◌, subst, length-append}
use mathlib.Core.Logic.{inl, inr}
use Rattle.std.specs.Prelude.{All, not, filter, replicate, slice_get, option_map, if◌then◌else◌}
use Rattle.std.specs.Option.{option_to_list}
use Rattle.std.proofs.lemmas.List.{append-nil, length-map}
use Rattle.std.proofs.lemmas.List.Elements.{All-head, All-tail, filter-append}
use Rattle.std.proofs.lemmas.Option.{get_or_from_slice_get}
use Rattle.std.proofs.Math.Seq.{take-length}
use Rattle.machine.specs.Values.{SettingsValue}
use Rattle.machine.specs.Values.{ChangeValue, StateValue}
use Rattle.machine.specs.State.{is_accepted}
use Rattle.machine.specs.Code.{settings_of, state_of}
use Rattle.machine.specs.Ready.{ReadyValue, IsReadyFor, absorbed}
use Rattle.bind_cache.specs.Kept.{Kept}
use Rattle.bind_cache.specs.Bindings.{bindings_of}
use Rattle.one_history.specs.Entries.{changes_with, others_with, changes_after, others_after}
use Rattle.one_history.specs.Entries.{changes_made, others_made}
use Rattle.one_history.proofs.Growing.{take_grown, get_grown, changes_grown, others_grown}
use Rattle.router_log.specs.Operation.{Operation, changed, kept, is_change, kept_count}
use Rattle.router_log.specs.Value.{Value, opening_value, value_of, applied, Fits, untouched_by}
use Rattle.router_log.specs.Taking.{with_change}
use Rattle.router_log.proofs.Places.{value_push}
use Rattle.router_log.proofs.Taking.{change_taken}
use Rattle.router_log.specs.Call.{Call, changing, publishes}
use Rattle.std.specs.declared.sync.Arc.{Arc}
use Rattle.bind_cache.specs.declared.binding.Binding.{Binding}
use Rattle.weave.specs.declared.listed.CallList.{CallList}
use Rattle.weave.specs.declared.pass.Pass.{Pass}
use Rattle.weave.specs.declared.pass.Flight.{Flight}
use Rattle.weave.specs.declared.world.World.{World}
use Rattle.weave.specs.Listed.{calls_in}
use Rattle.weave.specs.Code.{items_of, pass_of, kept_in_arc}
use Rattle.weave.specs.World.{Item, PassValue, WorldValue, new_pass, opening_world, publishes_now}
use Rattle.weave.specs.World.{with_call, called, seeing, answer_of, fresh_of}
use Rattle.weave.specs.Worlds.{IsWorld}
use Rattle.weave.specs.Held.{ops_of, world_of, value_in, FlightHolds, PassHolds, Holds, Becomes}
use Rattle.weave.proofs.Schedules.{set_get, none_of, all_seen, call_world, see_world, begin}

pub map-set : {X Y : Type 0} (f : X → Y) (xs : List X) (n : ℕ) (x : X)
    → map f (set xs n x) ≡ set (map f xs) n (f x)
map-set f [] n x = refl
map-set f (y ∷ ys) zero x = refl
map-set f (y ∷ ys) (suc n) x = ap (λ zs. f y ∷ zs) (map-set f ys n x)

pub get-map : {X Y : Type 0} (f : X → Y) (xs : List X) (n : ℕ) (x : X) → slice_get xs n ≡ Some x
    → slice_get (map f xs) n ≡ Some (f x)
get-map f [] n x h = absurd (cc)
get-map f (y ∷ ys) zero x h = let same : y ≡ x = cc in ap (λ z. Some (f z)) same
get-map f (y ∷ ys) (suc n) x h = get-map f ys n x h

module _ (settings : SettingsValue) where
  -- the counts with one call more
  pub changes_push : (number : ℕ) (ops : List Operation) (c o : ℕ) (items : List Item) (i : Item)
      → changes_after is_change (publishes settings) number ops c o (items ++ i ∷ [])
      ≡ changes_with is_change (publishes settings)
      (publishes settings (take i.1 ops) number
      (changes_after is_change (publishes settings) number ops c o items)
      (others_after is_change (publishes settings) number ops c o items) i.0)
      (changes_after is_change (publishes settings) number ops c o items)
  changes_push number ops c o [] i = refl
  changes_push number ops c o (j ∷ js) i =
      let found = publishes settings (take j.1 ops) number c o j.0 in
      changes_push number ops (changes_with is_change (publishes settings) found c)
      (others_with is_change (publishes settings) found o) js i

  pub others_push : (number : ℕ) (ops : List Operation) (c o : ℕ) (items : List Item) (i : Item)
      → others_after is_change (publishes settings) number ops c o (items ++ i ∷ [])
      ≡ others_with is_change (publishes settings)
      (publishes settings (take i.1 ops) number
      (changes_after is_change (publishes settings) number ops c o items)
      (others_after is_change (publishes settings) number ops c o items) i.0)
      (others_after is_change (publishes settings) number ops c o items)
  others_push number ops c o [] i = refl
  others_push number ops c o (j ∷ js) i =
      let found = publishes settings (take j.1 ops) number c o j.0 in
      others_push number ops (changes_with is_change (publishes settings) found c)
      (others_with is_change (publishes settings) found o) js i

  flight_grown : (ops more : List Operation) (items extra : List Item) (f : Flight)
      → FlightHolds settings ops items f → FlightHolds settings (ops ++ more) (items ++ extra) f
  flight_grown ops more items extra f h =
      let same = take_grown h.item.1 ops more h.within in
      record {
        item = h.item;
        here = get_grown items extra f.item h.item h.here;
        within = let le = h.within in omega (arith, le, length-append ops more);
        told = h.told ∙ ap (λ (xs : List Operation). answer_of settings xs h.item.0) (sym same);
        fresh = h.fresh ∙ ap (λ (xs : List Operation). fresh_of settings xs h.item.0) (sym same);
      }

  no_extra : (items : List Item) → items ++ [] ≡ items
  no_extra [] = refl
  no_extra (i ∷ is) = ap (λ js. i ∷ js) (no_extra is)

  pass_grown : (ops more : List Operation) (number : ℕ) (p : Pass)
      → All (λ (i : Item). i.1 ≤ length ops) (items_of p) → PassHolds settings ops number p
      → PassHolds settings (ops ++ more) number p
  pass_grown ops more number p within h =
      let items = items_of p in
      record {
        changes = h.changes ∙ sym
            (changes_grown is_change (publishes settings) number ops more 0 0 items within);
        keeps = h.keeps ∙ sym
            (others_grown is_change (publishes settings) number ops more 0 0 items within);
        flight = λ f is. subst (λ (xs : List Item). FlightHolds settings (ops ++ more) xs f)
            (no_extra items) (flight_grown ops more items [] f (h.flight f is));
      }

  -- a pass with one call more
  pass_called : (ops : List Operation) (number : ℕ) (p q : Pass) (call : Call)
      (found : Option Operation) → All (λ (i : Item). i.1 ≤ length ops) (items_of p)
      → PassHolds settings ops number p
      → publishes_now settings number ops (pass_of p) call ≡ found
      → items_of q ≡ items_of p ++ (call, length ops) ∷ [] → q.flight ≡ p.flight
      → q.changes ≡ changes_with is_change (publishes settings) found p.changes
      → q.keeps ≡ others_with is_change (publishes settings) found p.keeps
      → PassHolds settings (ops ++ option_to_list found) number q
  pass_called ops number p q call found within h is items flight changes keeps =
      let old = items_of p in
      let more = option_to_list found in
      let whole = ops ++ more in
      let cs = changes_grown is_change (publishes settings) number ops more 0 0 old within in
      let os = others_grown is_change (publishes settings) number ops more 0 0 old within in
      let front : take (length ops) whole ≡ ops = take_grown (length ops) ops more (omega arith)
      ∙ take-length ops in
      let published : publishes settings (take (length ops) whole) number
      (changes_made is_change (publishes settings) number whole old)
      (others_made is_change (publishes settings) number whole old) call ≡ found =
      rw (cs, os, front) is in
      record {
        changes = changes
            ∙ (ap (changes_with is_change (publishes settings) found) (h.changes ∙ sym cs)
            ∙ (sym (changes_push number whole 0 0 old (call, length ops)
            ∙ ap (λ (o : Option Operation). changes_with is_change (publishes settings) o
            (changes_made is_change (publishes settings) number whole old)) published)
            ∙ ap (changes_made is_change (publishes settings) number whole) (sym items)));
        keeps = keeps
            ∙ (ap (others_with is_change (publishes settings) found) (h.keeps ∙ sym os)
            ∙ (sym (others_push number whole 0 0 old (call, length ops)
            ∙ ap (λ (o : Option Operation). others_with is_change (publishes settings) o
            (others_made is_change (publishes settings) number whole old)) published)
            ∙ ap (others_made is_change (publishes settings) number whole) (sym items)));
        flight = λ f there. subst (λ (xs : List Item). FlightHolds settings whole xs f) (sym items)
            (flight_grown ops more old ((call, length ops) ∷ []) f
            (h.flight f (sym flight ∙ there)));
      }

-- a call of a pass in the code's world
module _ (old new : World) (number : ℕ) (p q : Pass) (call : Call) (found : Option Operation)
    (holds : Holds old) (here : slice_get old.passes.items number ≡ Some p)
    (same : settings_of new.settings ≡ settings_of old.settings)
    (is : publishes_now (settings_of old.settings) number (ops_of old) (pass_of p) call ≡ found)
    (ops_are : ops_of new ≡ ops_of old ++ option_to_list found)
    (passes_are : new.passes.items ≡ set old.passes.items number q)
    (pass_is : pass_of q ≡ with_call (settings_of old.settings) (pass_of p) call (ops_of old)
    (ops_of old ++ option_to_list found)) (flight_is : q.flight ≡ p.flight)
    (changes_are : q.changes ≡ changes_with is_change
    (publishes (settings_of old.settings)) found p.changes)
    (keeps_are : q.keeps ≡ others_with is_change (publishes (settings_of old.settings)) found
    p.keeps)
    (value_is : value_in new ≡ value_of (settings_of old.settings)
    (ops_of old ++ option_to_list found))
    (count_is : new.keeps ≡ kept_count (ops_of old ++ option_to_list found))
    (fits : (op : Operation) → found ≡ Some op
    → Fits (settings_of old.settings) (value_of (settings_of old.settings) (ops_of old)) op) where
  abbrev S : SettingsValue
  S = settings_of old.settings

  abbrev now : List Operation
  now = ops_of old ++ option_to_list found

  within : (j : ℕ) (r : Pass) → slice_get old.passes.items j ≡ Some r
      → All (λ (i : Item). i.1 ≤ length (ops_of old)) (items_of r)
  within j r there = (all_seen S (ops_of old) j (pass_of r)
      (holds.world.all j (pass_of r)
      (get-map pass_of old.passes.items j r there)).pass).placed.within

  world_is : world_of new ≡ called S (world_of old) number (pass_of p) call
  world_is =
      let make : List Operation → List PassValue → WorldValue =
      λ ops passes. record { ops = ops; passes = passes } in
      let target : Option Operation → WorldValue =
      λ o. make (ops_of old ++ option_to_list o)
      (set (map pass_of old.passes.items) number
      (with_call S (pass_of p) call (ops_of old) (ops_of old ++ option_to_list o))) in
      let passes : map pass_of new.passes.items
      ≡ set (map pass_of old.passes.items) number (with_call S (pass_of p) call (ops_of old) now) =
      ap (map pass_of) passes_are
      ∙ (map-set pass_of old.passes.items number q
      ∙ ap (set (map pass_of old.passes.items) number) pass_is) in
      ap (λ (ops : List Operation). make ops (map pass_of new.passes.items)) ops_are
      ∙ (ap (make now) passes ∙ ap target (sym is))

  all_passes : (j : ℕ) (r : Pass) → slice_get new.passes.items j ≡ Some r → PassHolds S now j r
  all_passes j r there =
      elim (set_get old.passes.items number q j r
      (ap (λ (xs : List Pass). slice_get xs j) (sym passes_are) ∙ there)) [
        | inl own ↦ subst (λ (x : Pass). PassHolds S now j x) (sym own.1)
            (subst (λ n. PassHolds S now n q) (sym own.0)
            (pass_called S (ops_of old) number p q call found (within number p here)
            (holds.passes number p here) is (ap (λ (v : PassValue). v.items) pass_is) flight_is
            changes_are keeps_are))
        | inr other ↦ pass_grown S (ops_of old) (option_to_list found) j r (within j r other.1)
            (holds.passes j r other.1)
      ]

  pub becomes : Becomes old new (called S (world_of old) number (pass_of p) call)
  becomes =
      let value : value_in new ≡ value_of (settings_of new.settings) (ops_of new) =
      rw (same, ops_are) value_is in
      let count : new.keeps ≡ kept_count (ops_of new) = rw ops_are count_is in
      let called_world : IsWorld S (called S (world_of old) number (pass_of p) call) =
      call_world S (world_of old) number (pass_of p) call holds.world
      (get-map pass_of old.passes.items number p here) (λ op e. fits op (sym is ∙ e)) in
      record {
        settings = same;
        world = world_is;
        holds = record {
          world = subst (λ (s : SettingsValue). IsWorld s (world_of new)) (sym same)
              (subst (λ (w : WorldValue). IsWorld S w) (sym world_is) called_world);
          value = value;
          keeps = count;
          passes = λ j r there. subst (λ (s : SettingsValue). PassHolds s (ops_of new) j r)
              (sym same) (subst (λ (ops : List Operation). PassHolds S ops j r) (sym ops_are)
              (all_passes j r there));
        };
      }

-- what a pass is with one call more, from what the code makes of it
abbrev pub pass_with : Pass → Call → ℕ → ℕ → PassValue
pass_with x call at seen =
    record {
      seen = seen;
      items = (pass_of x).items ++ (call, at) ∷ [];
      flight =
          (pass_of x).flight;
      fresh = (pass_of x).fresh;
    }

pub same_pass : (passes : List Pass) (number : ℕ) (p x : Pass) → slice_get passes number ≡ Some p
    → x ≡ get_or passes number x → x ≡ p
same_pass passes number p x here is = is ∙ get_or_from_slice_get passes number p x here

pub standing : (xs : List Pass) (n : ℕ) (y : Pass) → n < length xs → y ≡ get_or xs n y
    → slice_get xs n ≡ Some y
standing [] n y within e = absurd (omega arith)
standing (z ∷ zs) zero y within e = ap Some (sym e)
standing (z ∷ zs) (suc n) y within e = standing zs n y (omega arith) e

-- a pass makes a call that publishes nothing
pub noted : (old new : World) (number point : ℕ) (p x q : Pass) (call : Call) → Holds old
    → slice_get old.passes.items number ≡ Some p → x ≡ get_or old.passes.items number x
    → point ≡ length (ops_of old)
    → pass_of q ≡ pass_with x call point point → q.flight ≡ x.flight → q.changes ≡ x.changes
    → q.keeps ≡ x.keeps
    → publishes_now (settings_of old.settings) number (ops_of old) (pass_of p) call ≡ None
    → settings_of new.settings ≡ settings_of old.settings → ops_of new ≡ ops_of old
    → new.passes.items ≡ set old.passes.items number q → value_in new ≡ value_in old
    → new.keeps ≡ old.keeps
    → Becomes old new (called (settings_of old.settings) (world_of old) number (pass_of p) call)
noted old new number point p x q call holds here is point_is pass flight changes keeps none
    settings ops passes value count =
    let S = settings_of old.settings in
    let same = same_pass old.passes.items number p x here is in
    let nil : ops_of old ++ [] ≡ ops_of old = append-nil (ops_of old) in
    let pass_is : pass_of q ≡ with_call S (pass_of p) call (ops_of old) (ops_of old ++ []) =
    pass ∙ (ap (λ (y : Pass). pass_with y call point point) same
    ∙ (ap (λ n. pass_with p call n n) point_is
    ∙ ap (λ (now : List Operation). with_call S (pass_of p) call (ops_of old) now) (sym nil))) in
    becomes old new number p q call None holds here settings none (ops ∙ sym nil) passes pass_is
    (flight ∙ ap (λ (y : Pass). y.flight) same) (changes ∙ ap (λ (y : Pass). y.changes) same)
    (keeps ∙ ap (λ (y : Pass). y.keeps) same)
    (value ∙ (holds.value ∙ ap (value_of S) (sym nil)))
    (count ∙ (holds.keeps ∙ ap kept_count (sym nil))) (λ op e. absurd (cc))

one_at_most : (settings : SettingsValue) (found : Option Operation) (c : ℕ)
    → changes_with is_change (publishes settings) found c ≤ c + 1
one_at_most settings None c = omega arith
one_at_most settings (Some (changed caller serial change)) c = omega arith
one_at_most settings (Some (kept caller serial k)) c = omega arith

-- how many changes a pass made is no more than its calls
changes_le : (settings : SettingsValue) (number : ℕ) (ops : List Operation) (c o : ℕ)
    (items : List Item) → changes_after is_change (publishes settings) number ops c o items
    ≤ c + length items
changes_le settings number ops c o [] = omega arith
changes_le settings number ops c o (i ∷ is) =
    let found = publishes settings (take i.1 ops) number c o i.0 in
    let rest = changes_le settings number ops (changes_with is_change (publishes settings) found c)
    (others_with is_change (publishes settings) found o) is in
    let one = one_at_most settings found c in
    omega (arith, rest, one)

pub changes_few : (w : World) (number : ℕ) (x : Pass) → Holds w → number < length w.passes.items
    → x ≡ get_or w.passes.items number x → x.changes ≤ length (items_of x)
changes_few w number x holds there is =
    let here = standing w.passes.items number x there is in
    let h = holds.passes number x here in
    omega (arith, h.changes, changes_le (settings_of w.settings) number (ops_of w) 0 0 (items_of x))

kept_count_changed : (ops : List Operation) (caller serial : ℕ) (change : ChangeValue)
    → kept_count (ops ++ changed caller serial change ∷ []) ≡ kept_count ops
kept_count_changed ops caller serial change =
    ap length (filter-append (λ (op : Operation). not (is_change op)) ops
    (changed caller serial change ∷ [])
    ∙ append-nil (filter (λ (op : Operation). not (is_change op)) ops))

-- a pass makes a change that is accepted
pub accepted : (old new : World) (number point serial : ℕ) (p x q : Pass) (change : ChangeValue)
    (ready : ReadyValue) → Holds old → slice_get old.passes.items number ≡ Some p
    → x ≡ get_or old.passes.items number x → point ≡ length (ops_of old)
    → serial ≡ x.changes → IsReadyFor (settings_of old.settings) (state_of old.state) change ready
    → pass_of q ≡ pass_with x (changing change) point (point + 1) → q.flight ≡ x.flight
    → q.changes ≡ serial + 1 → q.keeps ≡ x.keeps
    → settings_of new.settings ≡ settings_of old.settings
    → ops_of new ≡ ops_of old ++ changed number serial change ∷ []
    → new.passes.items ≡ set old.passes.items number q
    → state_of new.state ≡ absorbed (state_of old.state) ready
    → bindings_of new.cache ≡ untouched_by (settings_of old.settings) (state_of old.state)
    (absorbed (state_of old.state) ready) change (bindings_of old.cache) → new.keeps ≡ old.keeps
    → Becomes old new (called (settings_of old.settings) (world_of old) number (pass_of p)
    (changing change))
accepted old new number point serial p x q change ready holds here is point_is serial_is ready_is
    pass flight changes keeps settings ops passes state cache count =
    let S = settings_of old.settings in
    let same = same_pass old.passes.items number p x here is in
    let op = changed number serial change in
    let made : serial ≡ changes_made is_change (publishes S) number (ops_of old) (items_of p) =
    serial_is ∙ (ap (λ (y : Pass). y.changes) same ∙ (holds.passes number p here).changes) in
    let value_is : state_of old.state ≡ (value_of S (ops_of old)).state =
    ap (λ (v : Value). v.state) holds.value in
    let yes : is_accepted (value_of S (ops_of old)).state change ≡ true =
    ap (λ (s : StateValue). is_accepted s change) (sym value_is) ∙ ready_is.accepted in
    let found : publishes_now S number (ops_of old) (pass_of p) (changing change) ≡ Some op =
    ap (λ (b : Bool). if b then Some
    (changed number (changes_made is_change (publishes S) number (ops_of old) (items_of p)) change)
    else None) yes ∙ ap (λ n. Some (changed number n change)) (sym made) in
    let longer = length-append (ops_of old) (op ∷ []) in
    let pass_is : pass_of q ≡ with_call S (pass_of p) (changing change) (ops_of old)
    (ops_of old ++ op ∷ []) =
    pass ∙ (ap (λ (y : Pass). pass_with y (changing change) point (point + 1)) same
    ∙ (ap (λ n. pass_with p (changing change) n (n + 1)) point_is
    ∙ ap (λ n. pass_with p (changing change) (length (ops_of old)) n) (sym longer))) in
    let make : StateValue → List Kept → Value = λ s ks. record { state = s; cache = ks } in
    let taken : value_in new ≡ with_change S (value_in old) change ready =
    ap (λ (s : StateValue). make s (bindings_of new.cache)) state
    ∙ ap (make (absorbed (state_of old.state) ready)) cache in
    let pushed : value_in new ≡ value_of S (ops_of old ++ op ∷ []) =
    taken ∙ (change_taken S (value_in old) number serial change ready ready_is
    ∙ (ap (λ (v : Value). applied S v op) holds.value ∙ sym (value_push S (ops_of old) op))) in
    becomes old new number p q (changing change) (Some op) holds here settings found ops passes
    pass_is (flight ∙ ap (λ (y : Pass). y.flight) same)
    (changes ∙ ap (λ n. n + 1) (serial_is ∙ ap (λ (y : Pass). y.changes) same))
    (keeps ∙ ap (λ (y : Pass). y.keeps) same) pushed
    (count ∙ (holds.keeps ∙ sym (kept_count_changed (ops_of old) number serial change)))
    (λ o e. let it : op ≡ o = cc in subst (λ (y : Operation). Fits S (value_of S (ops_of old)) y)
    it yes)

-- a world that says the same as before
pub unmoved : (old new : World) → Holds old → settings_of new.settings ≡ settings_of old.settings
    → ops_of new ≡ ops_of old → new.passes.items ≡ old.passes.items → value_in new ≡ value_in old
    → new.keeps ≡ old.keeps
    → Becomes old new (world_of old)
unmoved old new holds settings ops passes value count =
    let S = settings_of old.settings in
    let make : List Operation → List PassValue → WorldValue =
    λ ops passes. record { ops = ops; passes = passes } in
    let is : world_of new ≡ world_of old =
    ap (λ (xs : List Operation). make xs (map pass_of new.passes.items)) ops
    ∙ ap (λ (ps : List Pass). make (ops_of old) (map pass_of ps)) passes in
    record {
      settings = settings;
      world = is;
      holds = record {
        world = subst (λ (s : SettingsValue). IsWorld s (world_of new)) (sym settings)
            (subst (λ (w : WorldValue). IsWorld S w) (sym is) holds.world);
        value = rw (settings, ops) (value ∙ holds.value);
        keeps = rw ops (count ∙ holds.keeps);
        passes = λ j r there.
            subst (λ (s : SettingsValue). PassHolds s (ops_of new) j r) (sym settings)
            (subst (λ (xs : List Operation). PassHolds S xs j r) (sym ops)
            (holds.passes j r (ap (λ (ps : List Pass). slice_get ps j) (sym passes) ∙ there)));
      };
    }

pub stays : (w : World) → Holds w → Becomes w w (world_of w)
stays w holds = record { settings = refl; world = refl; holds = holds }

pub still : (old mid new : World) → Becomes old mid (world_of old) → Becomes mid new (world_of mid)
    → Becomes old new (world_of old)
still old mid new first second = record {
  settings = second.settings ∙ first.settings;
  world = second.world ∙ first.world;
  holds =
      second.holds;
}

-- where nothing changed at first, what changes then is what changes
pub onward : (old mid new : World) (w : WorldValue) → Becomes old mid (world_of old)
    → Becomes mid new w → Becomes old new w
onward old mid new w first second =
    record {
      settings = second.settings ∙ first.settings;
      world = second.world;
      holds =
          second.holds;
    }

-- one pass is replaced, and nothing is published
pub renewed : (old new : World) (number : ℕ) (q : Pass) (v : PassValue) → Holds old
    → PassHolds (settings_of old.settings) (ops_of old) number q → pass_of q ≡ v
    → IsWorld (settings_of old.settings)
    (record { ops = ops_of old; passes = set (map pass_of old.passes.items) number v })
    → settings_of new.settings ≡ settings_of old.settings → ops_of new ≡ ops_of old
    → new.passes.items ≡ set old.passes.items number q → value_in new ≡ value_in old
    → new.keeps ≡ old.keeps
    → Becomes old new (record {
      ops = ops_of old;
      passes =
          set (map pass_of old.passes.items) number v;
    })
renewed old new number q v holds pass_holds pass_is world settings ops passes value count =
    let S = settings_of old.settings in
    let make : List Operation → List PassValue → WorldValue =
    λ ops passes. record { ops = ops; passes = passes } in
    let all : map pass_of new.passes.items ≡ set (map pass_of old.passes.items) number v =
    ap (map pass_of) passes
    ∙ (map-set pass_of old.passes.items number q
    ∙ ap (set (map pass_of old.passes.items) number) pass_is) in
    let is : world_of new ≡ make (ops_of old) (set (map pass_of old.passes.items) number v) =
    ap (λ (xs : List Operation). make xs (map pass_of new.passes.items)) ops
    ∙ ap (make (ops_of old)) all in
    let holds_all : (j : ℕ) (r : Pass) → slice_get new.passes.items j ≡ Some r
    → PassHolds S (ops_of old) j r =
    λ j r there.
    elim (set_get old.passes.items number q j r
    (ap (λ (xs : List Pass). slice_get xs j) (sym passes) ∙ there)) [
      | inl own ↦ subst (λ (x : Pass). PassHolds S (ops_of old) j x) (sym own.1)
          (subst (λ n. PassHolds S (ops_of old) n q) (sym own.0) pass_holds)
      | inr other ↦ holds.passes j r other.1
    ] in
    record {
      settings = settings;
      world = is;
      holds = record {
        world = subst (λ (s : SettingsValue). IsWorld s (world_of new)) (sym settings)
            (subst (λ (w : WorldValue). IsWorld S w) (sym is) world);
        value = rw (settings, ops) (value ∙ holds.value);
        keeps = rw ops (count ∙ holds.keeps);
        passes = λ j r there. subst (λ (s : SettingsValue). PassHolds s (ops_of new) j r)
            (sym settings) (subst (λ (xs : List Operation). PassHolds S xs j r) (sym ops)
            (holds_all j r there));
      };
    }

-- a pass whose calls are those of another, and what is counted of them
pub holds_from : (settings : SettingsValue) (ops : List Operation) (number : ℕ) (p q : Pass)
    → PassHolds settings ops number p → items_of q ≡ items_of p → q.changes ≡ p.changes
    → q.keeps ≡ p.keeps
    → ((f : Flight) → q.flight ≡ Some f → p.flight ≡ Some f) → PassHolds settings ops number q
holds_from settings ops number p q h calls changes keeps flight = record {
  changes = changes ∙ (h.changes ∙ ap (changes_made is_change (publishes settings) number ops)
      (sym calls));
  keeps = keeps ∙ (h.keeps ∙ ap (others_made is_change (publishes settings) number ops)
      (sym calls));
  flight = λ f there. subst (λ (xs : List Item). FlightHolds settings ops xs f) (sym calls)
      (h.flight f (flight f there));
}

set_same : {X : Type 0} (xs : List X) (n : ℕ) (x : X) → slice_get xs n ≡ Some x → set xs n x ≡ xs
set_same [] n x h = refl
set_same (y ∷ ys) zero x h = let same : y ≡ x = cc in ap (λ z. z ∷ ys) (sym same)
set_same (y ∷ ys) (suc n) x h = ap (λ zs. y ∷ zs) (set_same ys n x h)

-- one pass is replaced by one that says the same
pub repeated : (old new : World) (number : ℕ) (p x q : Pass) → Holds old
    → slice_get old.passes.items number ≡ Some p → x ≡ get_or old.passes.items number x
    → pass_of q ≡ pass_of x → q.flight ≡ x.flight → q.changes ≡ x.changes → q.keeps ≡ x.keeps
    → settings_of new.settings ≡ settings_of old.settings → ops_of new ≡ ops_of old
    → new.passes.items ≡ set old.passes.items number q → value_in new ≡ value_in old
    → new.keeps ≡ old.keeps
    → Becomes old new (world_of old)
repeated old new number p x q holds here is pass flight changes keeps settings ops passes value
    count =
    let S = settings_of old.settings in
    let same = same_pass old.passes.items number p x here is in
    let pass_is : pass_of q ≡ pass_of p = pass ∙ ap pass_of same in
    let flight_is : q.flight ≡ p.flight = flight ∙ ap (λ (y : Pass). y.flight) same in
    let holds_q = holds_from S (ops_of old) number p q (holds.passes number p here)
    (ap (λ (v : PassValue). v.items) pass_is) (changes ∙ ap (λ (y : Pass). y.changes) same)
    (keeps ∙ ap (λ (y : Pass). y.keeps) same) (λ f there. sym flight_is ∙ there) in
    let make : List PassValue → WorldValue =
    λ passes. record { ops = ops_of old; passes = passes } in
    let back : make (set (map pass_of old.passes.items) number (pass_of p)) ≡ world_of old =
    ap make (set_same (map pass_of old.passes.items) number (pass_of p)
    (get-map pass_of old.passes.items number p here)) in
    subst (λ (w : WorldValue). Becomes old new w) back
    (renewed old new number q (pass_of p) holds holds_q pass_is
    (subst (λ (w : WorldValue). IsWorld S w) (sym back) holds.world) settings ops passes value
    count)

pub steady : (old new : World) (number : ℕ) (x q : Pass) → Holds old
    → number < length old.passes.items → x ≡ get_or old.passes.items number x
    → pass_of q ≡ pass_of x → q.flight ≡ x.flight → q.changes ≡ x.changes → q.keeps ≡ x.keeps
    → settings_of new.settings ≡ settings_of old.settings → ops_of new ≡ ops_of old
    → new.passes.items ≡ set old.passes.items number q → value_in new ≡ value_in old
    → new.keeps ≡ old.keeps
    → Becomes old new (world_of old)
steady old new number x q holds within is pass flight changes keeps settings ops passes value
    count =
    repeated old new number x x q holds (standing old.passes.items number x within is) is pass
    flight changes keeps settings ops passes value count

-- where one pass is replaced, that is it
pub set_there : (passes : List Pass) (number : ℕ) (q p : Pass)
    → slice_get (set passes number q) number ≡ Some p → q ≡ p
set_there passes number q p there =
    elim (set_get passes number q number p there) [
      | inl own ↦ sym own.1
      | inr other ↦ absurd (other.0 refl)
    ]

-- a pass sees all that was published
pub sees : (old new : World) (number point : ℕ) (p x q : Pass) → Holds old
    → slice_get old.passes.items number ≡ Some p → x ≡ get_or old.passes.items number x
    → point ≡ length (ops_of old)
    → q.seen ≡ point → q.items ≡ x.items → q.flight ≡ x.flight → q.fresh ≡ x.fresh
    → q.changes ≡ x.changes → q.keeps ≡ x.keeps
    → settings_of new.settings ≡ settings_of old.settings → ops_of new ≡ ops_of old
    → new.passes.items ≡ set old.passes.items number q → value_in new ≡ value_in old
    → new.keeps ≡ old.keeps
    → Becomes old new (seeing (settings_of old.settings) (world_of old) number (pass_of p))
sees old new number point p x q holds here is point_is seen items flight fresh changes keeps
    settings ops passes value count =
    let S = settings_of old.settings in
    let same = same_pass old.passes.items number p x here is in
    let h = holds.passes number p here in
    let items_are : q.items ≡ p.items = items ∙ ap (λ (y : Pass). y.items) same in
    let flight_is : q.flight ≡ p.flight = flight ∙ ap (λ (y : Pass). y.flight) same in
    let calls : items_of q ≡ items_of p = ap (λ (v : CallList). calls_in v.list.value) items_are in
    let pass_holds = holds_from S (ops_of old) number p q h calls
    (changes ∙ ap (λ (y : Pass). y.changes) same) (keeps ∙ ap (λ (y : Pass). y.keeps) same)
    (λ f there. sym flight_is ∙ there) in
    let make : ℕ → List Item → Option ℕ → Option Kept → PassValue =
    λ seen items flight fresh. record {
      seen = seen;
      items = items;
      flight = flight;
      fresh =
          fresh;
    } in
    let pass_is : pass_of q ≡ make (length (ops_of old)) (pass_of p).items (pass_of p).flight
    (pass_of p).fresh =
    ap (λ n. make n (pass_of q).items (pass_of q).flight (pass_of q).fresh) (seen ∙ point_is)
    ∙ (ap (λ (xs : List Item). make (length (ops_of old)) xs (pass_of q).flight (pass_of q).fresh)
    calls
    ∙ (ap (λ (o : Option Flight). make (length (ops_of old)) (pass_of p).items
    (option_map (λ (f : Flight). f.item) o) (pass_of q).fresh) flight_is
    ∙ ap (λ (o : Option (Arc Binding Global)). make (length (ops_of old)) (pass_of p).items
    (pass_of p).flight (option_map kept_in_arc o)) (fresh ∙ ap (λ (y : Pass). y.fresh) same))) in
    renewed old new number q
    (make (length (ops_of old)) (pass_of p).items (pass_of p).flight (pass_of p).fresh) holds
    pass_holds pass_is
    (see_world S (world_of old) number (pass_of p) holds.world
    (get-map pass_of old.passes.items number p here)) settings ops passes value count

none_waits : (p : Pass) (f : Flight) → option_map (λ (x : Flight). x.item) p.flight ≡ None
    → p.flight ≡ Some f → ⊥
none_waits p f none there = let some : option_map (λ (x : Flight). x.item) p.flight ≡ Some f.item =
    ap (option_map (λ (x : Flight). x.item)) there in cc

-- a world in which nothing was published holds
pub started : (w : World) (n : ℕ) → ops_of w ≡ []
    → map pass_of w.passes.items ≡ replicate n new_pass
    → ((j : ℕ) (p : Pass) → slice_get w.passes.items j ≡ Some p → (p.changes ≡ 0) × (p.keeps ≡ 0))
    → value_in w ≡ opening_value → w.keeps ≡ 0 → Holds w
started w n ops passes counts value keeps =
    let S = settings_of w.settings in
    let make : List Operation → List PassValue → WorldValue =
    λ ops passes. record { ops = ops; passes = passes } in
    let is : world_of w ≡ opening_world n =
    ap (λ (xs : List Operation). make xs (map pass_of w.passes.items)) ops ∙ ap (make []) passes in
    record {
      world = subst (λ (v : WorldValue). IsWorld S v) (sym is) (begin S n);
      value = value ∙ ap (value_of S) (sym ops);
      keeps = keeps ∙ ap kept_count (sym ops);
      passes = λ j p here.
          let blank : pass_of p ≡ new_pass = none_of n j new_pass (pass_of p)
          (ap (λ (xs : List PassValue). slice_get xs j) (sym passes)
          ∙ get-map pass_of w.passes.items j p here) in
          let items : items_of p ≡ [] = ap (λ (v : PassValue). v.items) blank in
          let both = counts j p here in
          record {
            changes = both.0 ∙ ap (changes_made is_change (publishes S) j (ops_of w)) (sym items);
            keeps = both.1 ∙ ap (others_made is_change (publishes S) j (ops_of w)) (sym items);
            flight = λ f there. absurd
                (none_waits p f (ap (λ (v : PassValue). v.flight) blank) there);
          };
    }

pub all_at : {X : Type 0} (P : X → Type 0) (xs : List X) (j : ℕ) (x : X) → All P xs
    → slice_get xs j ≡ Some x → P x
all_at P [] j x all here = absurd (cc)
all_at P (y ∷ ys) zero x all here = let same : y ≡ x = cc in subst P same (All-head P y ys all)
all_at P (y ∷ ys) (suc j) x all here = all_at P ys j x (All-tail P y ys all) here

-- what is found in a mapped list
pub record Found {X Y : Type 0} (f : X → Y) (xs : List X) (n : ℕ) (y : Y) : Type 0 where
  pub at : X
  pub here : slice_get xs n ≡ Some at
  pub same : f at ≡ y

pub map_get : {X Y : Type 0} (f : X → Y) (xs : List X) (n : ℕ) (y : Y)
    → slice_get (map f xs) n ≡ Some y → Found f xs n y
map_get f [] n y h = absurd (cc)
map_get f (x ∷ xs) zero y h = record { at = x; here = refl; same = cc }
map_get f (x ∷ xs) (suc n) y h = let found = map_get f xs n y h in
    record { at = found.at; here = found.here; same = found.same }

pub present : {X : Type 0} (xs : List X) (n : ℕ) → n < length xs
    → (x : X) × (slice_get xs n ≡ Some x)
present [] n within = absurd (omega arith)
present (x ∷ xs) zero within = (x, refl)
present (x ∷ xs) (suc n) within = present xs n (omega arith)

pub missing : {X : Type 0} (xs : List X) (n : ℕ) → length xs ≤ n → slice_get xs n ≡ None
missing [] n out = refl
missing (x ∷ xs) zero out = absurd (omega arith)
missing (x ∷ xs) (suc n) out = missing xs n (omega arith)

pub present_value : (passes : List Pass) (number : ℕ) → number < length passes
    → (p : Pass) × (slice_get passes number ≡ Some p)
present_value passes number within = present passes number within
