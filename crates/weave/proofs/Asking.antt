-- Questions that are asked and answered in the code's world.
use Rattle.std.proofs.Common.{◌≡◌, get_or, ℕ, List, [], ◌∷◌, ◌++◌, length, map, take, set, Some}
use Rattle.std.proofs.Common.{None, Option, refl, arith, ap, sym, ◌∙◌, subst}
use Rattle.std.specs.Prelude.{slice_get, option_map}
use Rattle.std.specs.Option.{option_or}
use Rattle.std.proofs.lemmas.Option.{get_or_from_slice_get}
use Rattle.std.proofs.Math.Seq.{take-length}
use Rattle.machine.specs.Values.{SettingsValue}
use Rattle.machine.specs.Code.{settings_of}
use Rattle.bind_cache.specs.Kept.{Kept}
use Rattle.one_history.specs.Entries.{changes_made, others_made}
use Rattle.router_log.specs.Operation.{Operation, is_change}
use Rattle.router_log.specs.Call.{publishes, asked, looked}
use Rattle.std.specs.declared.sync.Arc.{Arc}
use Rattle.std.specs.declared.alloc.Global.{Global}
use Rattle.bind_cache.specs.declared.binding.Binding.{Binding}
use Rattle.weave.specs.declared.pass.Pass.{Pass}
use Rattle.weave.specs.declared.pass.Flight.{Flight}
use Rattle.weave.specs.declared.world.World.{World}
use Rattle.weave.specs.declared.listed.CallList.{CallList}
use Rattle.weave.specs.Listed.{calls_in}
use Rattle.weave.specs.Code.{items_of, pass_of, kept_in_arc, told_value, flight_told, flight_fresh}
use Rattle.weave.specs.World.{Item, PassValue, Question, pick, look, ToldValue, call_of, entered}
use Rattle.weave.specs.World.{answered, in_flight, item_at, answer_of, fresh_of}
use Rattle.weave.specs.Held.{ops_of, world_of, value_in, FlightHolds, PassHolds, Holds, Becomes}
use Rattle.weave.specs.Held.{IsMade}
use Rattle.weave.proofs.Schedules.{enter_world, answer_world}
use Rattle.weave.proofs.Moving.{get-map, changes_push, others_push, pass_with, same_pass, renewed}
use Rattle.weave.proofs.Moving.{repeated, holds_from}

module _ (settings : SettingsValue) where
  changes_ask : (number at : ℕ) (ops : List Operation) (items : List Item) (question : Question)
      → changes_made is_change (publishes settings) number ops
      (items ++ (call_of question, at) ∷ [])
      ≡ changes_made is_change (publishes settings) number ops items
  changes_ask number at ops items (pick a) =
      changes_push settings number ops 0 0 items (asked a, at)
  changes_ask number at ops items (look l) =
      changes_push settings number ops 0 0 items (looked l, at)

  others_ask : (number at : ℕ) (ops : List Operation) (items : List Item) (question : Question)
      → others_made is_change (publishes settings) number ops
      (items ++ (call_of question, at) ∷ [])
      ≡ others_made is_change (publishes settings) number ops items
  others_ask number at ops items (pick a) = others_push settings number ops 0 0 items (asked a, at)
  others_ask number at ops items (look l) = others_push settings number ops 0 0 items (looked l, at)

last_at : (items : List Item) (i : Item) → slice_get (items ++ i ∷ []) (length items) ≡ Some i
last_at [] i = refl
last_at (j ∷ js) i = last_at js i

only : (f g : Flight) (o : Option Flight) → o ≡ Some g → o ≡ Some f → g ≡ f
only f g o one other = let both : Some g ≡ Some f = sym one ∙ other in cc

-- a pass asks something, whose answer is worked out
pub asks : (old new : World) (number point : ℕ) (p x y q : Pass) (question : Question) (f : Flight)
    → Holds old → slice_get old.passes.items number ≡ Some p → x ≡ get_or old.passes.items number x
    → point ≡ length (ops_of old)
    → pass_of y ≡ pass_with x (call_of question) point point → y.changes ≡ x.changes
    → y.keeps ≡ x.keeps
    → q.seen ≡ y.seen → q.items ≡ y.items → q.fresh ≡ y.fresh → q.changes ≡ y.changes
    → q.keeps ≡ y.keeps → q.flight ≡ Some f → f.item ≡ length (items_of x)
    → told_value f.told ≡ answer_of (settings_of old.settings) (ops_of old) (call_of question)
    → option_map kept_in_arc f.fresh ≡ fresh_of (settings_of old.settings) (ops_of old)
    (call_of question)
    → settings_of new.settings ≡ settings_of old.settings → ops_of new ≡ ops_of old
    → new.passes.items ≡ set old.passes.items number q → value_in new ≡ value_in old
    → new.keeps ≡ old.keeps
    → Becomes old new (entered (settings_of old.settings) (world_of old) number
    (pass_of p) question)
asks old new number point p x y q question f holds here is point_is pass_y changes_y keeps_y seen
    items fresh changes keeps flight item_is told fresh_is settings ops passes value count =
    let S = settings_of old.settings in
    let all = ops_of old in
    let same = same_pass old.passes.items number p x here is in
    let h = holds.passes number p here in
    let make : ℕ → List Item → Option ℕ → Option Kept → PassValue =
    λ seen items flight fresh. record {
      seen = seen;
      items = items;
      flight = flight;
      fresh =
          fresh;
    } in
    let call : Item = (call_of question, length all) in
    let y_is : pass_of y ≡ pass_with p (call_of question) (length all) (length all) =
    pass_y ∙ (ap (λ (z : Pass). pass_with z (call_of question) point point) same
    ∙ ap (λ n. pass_with p (call_of question) n n) point_is) in
    let calls : items_of q ≡ items_of p ++ call ∷ [] =
    ap (λ (v : CallList). calls_in v.list.value) items ∙ ap (λ (v : PassValue). v.items) y_is in
    let place : f.item ≡ length (items_of p) = item_is
    ∙ ap (λ (z : Pass). length (items_of z)) same in
    let pass_is : pass_of q ≡ make (length all) (items_of p ++ call ∷ [])
    (Some (length (items_of p))) (option_map kept_in_arc p.fresh) =
    ap (λ n. make n (pass_of q).items (pass_of q).flight (pass_of q).fresh)
    (seen ∙ ap (λ (v : PassValue). v.seen) y_is)
    ∙ (ap (λ (xs : List Item). make (length all) xs (pass_of q).flight (pass_of q).fresh) calls
    ∙ (ap (λ (o : Option Flight). make (length all) (items_of p ++ call ∷ [])
    (option_map (λ (g : Flight). g.item) o) (pass_of q).fresh) flight
    ∙ (ap (λ n. make (length all) (items_of p ++ call ∷ []) (Some n) (pass_of q).fresh) place
    ∙ ap (λ (o : Option Kept). make (length all) (items_of p ++ call ∷ [])
    (Some (length (items_of p))) o) (ap (option_map kept_in_arc) fresh
    ∙ ap (λ (v : PassValue). v.fresh) y_is)))) in
    let front : take (length all) all ≡ all = take-length all in
    let waits : FlightHolds S all (items_of q) f = record {
      item = call;
      here = ap (λ n. slice_get (items_of q) n) place
          ∙ (ap (λ (xs : List Item). slice_get xs (length (items_of p))) calls
          ∙ last_at (items_of p) call);
      within = omega arith;
      told = told ∙ ap (λ (xs : List Operation). answer_of S xs (call_of question)) (sym front);
      fresh = fresh_is ∙ ap (λ (xs : List Operation). fresh_of S xs (call_of question)) (sym front);
    } in
    let pass_holds : PassHolds S all number q = record {
      changes = changes ∙ (changes_y
          ∙ (ap (λ (z : Pass). z.changes) same
          ∙ (h.changes ∙ (sym (changes_ask S number (length all) all (items_of p) question)
          ∙ ap (changes_made is_change (publishes S) number all) (sym calls)))));
      keeps = keeps ∙ (keeps_y
          ∙ (ap (λ (z : Pass). z.keeps) same
          ∙ (h.keeps ∙ (sym (others_ask S number (length all) all (items_of p) question)
          ∙ ap (others_made is_change (publishes S) number all) (sym calls)))));
      flight = λ g there. subst (λ (z : Flight). FlightHolds S all (items_of q) z)
          (only g f q.flight flight there) waits;
    } in
    renewed old new number q
    (make (length all) (items_of p ++ call ∷ []) (Some (length (items_of p)))
    (option_map kept_in_arc p.fresh)) holds pass_holds pass_is
    (enter_world S (world_of old) number (pass_of p) question holds.world
    (get-map pass_of old.passes.items number p here)) settings ops passes value count

option_map_or : (one other : Option (Arc Binding Global))
    → option_map kept_in_arc (option_or one other)
    ≡ option_or (option_map kept_in_arc one) (option_map kept_in_arc other)
option_map_or None other = refl
option_map_or (Some x) other = refl

-- a pass is answered
pub answers : (old new : World) (number : ℕ) (p x q : Pass) (told : ToldValue) → Holds old
    → slice_get old.passes.items number ≡ Some p → x ≡ get_or old.passes.items number x
    → q.seen ≡ x.seen → q.items ≡ x.items → q.changes ≡ x.changes → q.keeps ≡ x.keeps
    → q.flight ≡ None → told ≡ flight_told x.flight → q.fresh ≡ flight_fresh x.flight x.fresh
    → settings_of new.settings ≡ settings_of old.settings → ops_of new ≡ ops_of old
    → new.passes.items ≡ set old.passes.items number q → value_in new ≡ value_in old
    → new.keeps ≡ old.keeps
    → IsMade old new (answered (settings_of old.settings) (world_of old) number (pass_of p)
    (in_flight (pass_of p))) told
answers old new number p x q told holds here is seen items changes keeps flight told_is fresh
    settings ops passes value count =
    let S = settings_of old.settings in
    let all = ops_of old in
    let same = same_pass old.passes.items number p x here is in
    let h = holds.passes number p here in
    let make : ℕ → List Item → Option ℕ → Option Kept → PassValue =
    λ seen items flight fresh. record {
      seen = seen;
      items = items;
      flight = flight;
      fresh =
          fresh;
    } in
    let seen_is : q.seen ≡ p.seen = seen ∙ ap (λ (y : Pass). y.seen) same in
    let items_are : q.items ≡ p.items = items ∙ ap (λ (y : Pass). y.items) same in
    let calls : items_of q ≡ items_of p = ap (λ (v : CallList). calls_in v.list.value) items_are in
    let pass_holds = holds_from S all number p q h calls
    (changes ∙ ap (λ (y : Pass). y.changes) same) (keeps ∙ ap (λ (y : Pass). y.keeps) same)
    (λ f there. let clash : None ≡ Some f = sym flight ∙ there in absurd (cc)) in
    let fresh_then : q.fresh ≡ flight_fresh p.flight p.fresh =
    fresh ∙ ap (λ (y : Pass). flight_fresh y.flight y.fresh) same in
    let told_then : told ≡ flight_told p.flight = told_is
    ∙ ap (λ (y : Pass). flight_told y.flight) same in
    let P : Option Flight → Type 0 = λ o. p.flight ≡ o
    → IsMade old new (answered S (world_of old) number (pass_of p) (in_flight (pass_of p))) told in
    let each : P p.flight =
    elim p.flight as P [
      | None ↦ (λ none.
          let no : in_flight (pass_of p) ≡ None =
          ap (λ (o : Option Flight). item_at (items_of p) (option_map (λ (g : Flight). g.item) o))
          none in
          let pass_is : pass_of q ≡ pass_of p =
          ap (λ n. make n (pass_of q).items (pass_of q).flight (pass_of q).fresh) seen_is
          ∙ (ap (λ (xs : List Item). make p.seen xs (pass_of q).flight (pass_of q).fresh) calls
          ∙ (ap (λ (o : Option Flight). make p.seen (pass_of p).items
          (option_map (λ (g : Flight). g.item) o) (pass_of q).fresh) (flight ∙ sym none)
          ∙ ap (λ (o : Option (Arc Binding Global)). make p.seen (pass_of p).items
          (pass_of p).flight (option_map kept_in_arc o))
          (fresh_then ∙ ap (λ (o : Option Flight). flight_fresh o p.fresh) none))) in
          let moved = repeated old new number p p q holds here
          (sym (get_or_from_slice_get old.passes.items number p p here)) pass_is
          (flight ∙ sym none) (changes ∙ ap (λ (y : Pass). y.changes) same)
          (keeps ∙ ap (λ (y : Pass). y.keeps) same) settings ops passes value count in
          let target = λ (o : Option Item). answered S (world_of old) number (pass_of p) o in
          subst (λ (o : Option Item). IsMade old new (target o) told) (sym no)
          (moved, told_then ∙ ap flight_told none))
      | Some f ↦ (λ some.
          let waits = h.flight f some in
          let yes : in_flight (pass_of p) ≡ Some waits.item =
          ap (λ (o : Option Flight). item_at (items_of p) (option_map (λ (g : Flight). g.item) o))
          some ∙ waits.here in
          let left : option_map kept_in_arc q.fresh
          ≡ option_or (fresh_of S (take waits.item.1 all) waits.item.0)
          (option_map kept_in_arc p.fresh) =
          ap (option_map kept_in_arc) (fresh_then
          ∙ ap (λ (o : Option Flight). flight_fresh o p.fresh) some)
          ∙ (option_map_or f.fresh p.fresh ∙ ap
          (λ (o : Option Kept). option_or o (option_map kept_in_arc p.fresh)) waits.fresh) in
          let next = make p.seen (items_of p) None
          (option_or (fresh_of S (take waits.item.1 all) waits.item.0)
          (option_map kept_in_arc p.fresh)) in
          let pass_is : pass_of q ≡ next =
          ap (λ n. make n (pass_of q).items (pass_of q).flight (pass_of q).fresh) seen_is
          ∙ (ap (λ (xs : List Item). make p.seen xs (pass_of q).flight (pass_of q).fresh) calls
          ∙ (ap (λ (o : Option Flight). make p.seen (pass_of p).items
          (option_map (λ (g : Flight). g.item) o) (pass_of q).fresh) flight
          ∙ ap (λ (o : Option Kept). make p.seen (pass_of p).items None o) left)) in
          let moved = renewed old new number q next holds pass_holds pass_is
          (answer_world S (world_of old) number (pass_of p) (Some waits.item) holds.world
          (get-map pass_of old.passes.items number p here)) settings ops passes value count in
          let target = λ (o : Option Item). answered S (world_of old) number (pass_of p) o in
          subst (λ (o : Option Item). IsMade old new (target o) told) (sym yes)
          (moved, told_then ∙ (ap flight_told some ∙ waits.told)))
    ] in
    each refl
