-- Delegations that are kept in the code's world.
use Rattle.std.proofs.Common.{◌≡◌, get_or, ℕ, ◌+◌, ◌<◌, ◌≤◌, take, Bool, List, [], ◌∷◌, ◌++◌}
use Rattle.std.proofs.Common.{length, map, set, true, false, Some, None, Option, refl, arith, ap}
use Rattle.std.proofs.Common.{sym, ◌∙◌, subst, length-append}
use Rattle.std.specs.Prelude.{not, ◌||◌, nat_lt, nat_le, filter, slice_get, option_map}
use Rattle.std.specs.Prelude.{if◌then◌else◌, is_some}
use Rattle.std.proofs.lemmas.Bool.Decides.{nat_tests}
use Rattle.std.proofs.lemmas.List.Elements.{filter-append}
use Rattle.machine.specs.Values.{SettingsValue, StateValue}
use Rattle.machine.specs.Code.{settings_of, state_of}
use Rattle.bind_core.specs.Delegation.{Ending}
use Rattle.bind_cache.specs.Kept.{Kept}
use Rattle.bind_cache.specs.Cache.{found_in, kept_in}
use Rattle.bind_cache.specs.Bindings.{bindings_of}
use Rattle.one_history.specs.Entries.{others_with, others_after, changes_with, others_made}
use Rattle.router_log.specs.Operation.{Operation, changed, kept, is_change, kept_count}
use Rattle.router_log.specs.Value.{Value, value_of, applied, Fits}
use Rattle.router_log.specs.Call.{keeping, publishes, is_kept, is_large, is_late, is_had, are_spent}
use Rattle.router_log.proofs.Places.{value_push}
use Rattle.weave.specs.declared.pass.Pass.{Pass}
use Rattle.weave.specs.declared.world.World.{World}
use Rattle.weave.specs.Code.{items_of, pass_of, kept_in_arc}
use Rattle.weave.specs.World.{Item, PassValue, was_kept, was_not_kept, with_call, called}
use Rattle.weave.specs.World.{publishes_now}
use Rattle.weave.specs.Held.{ops_of, world_of, value_in, Holds, Becomes}
use Rattle.weave.proofs.Schedules.{kept_here}
use Rattle.weave.proofs.Moving.{get-map, becomes, pass_with, same_pass, standing}

one_at_most : (settings : SettingsValue) (found : Option Operation) (o : ℕ)
    → others_with is_change (publishes settings) found o ≤ o + 1
one_at_most settings None o = omega arith
one_at_most settings (Some (changed caller serial change)) o = omega arith
one_at_most settings (Some (kept caller serial k)) o = omega arith

-- how many delegations of a pass are kept is no more than its calls
others_le : (settings : SettingsValue) (number : ℕ) (ops : List Operation) (c o : ℕ)
    (items : List Item) → others_after is_change (publishes settings) number ops c o items
    ≤ o + length items
others_le settings number ops c o [] = omega arith
others_le settings number ops c o (i ∷ is) =
    let found = publishes settings (take i.1 ops) number c o i.0 in
    let rest = others_le settings number ops (changes_with is_change (publishes settings) found c)
    (others_with is_change (publishes settings) found o) is in
    let one = one_at_most settings found o in
    omega (arith, rest, one)

pub keeps_few : (w : World) (number : ℕ) (x : Pass) → Holds w → number < length w.passes.items
    → x ≡ get_or w.passes.items number x → x.keeps ≤ length (items_of x)
keeps_few w number x holds there is =
    let here = standing w.passes.items number x there is in
    let h = holds.passes number x here in
    omega (arith, h.keeps, others_le (settings_of w.settings) number (ops_of w) 0 0 (items_of x))

kept_count_kept : (ops : List Operation) (caller serial : ℕ) (k : Kept)
    → kept_count (ops ++ kept caller serial k ∷ []) ≡ kept_count ops + 1
kept_count_kept ops caller serial k =
    ap length (filter-append (λ (op : Operation). not (is_change op)) ops
    (kept caller serial k ∷ [])) ∙ length-append
    (filter (λ (op : Operation). not (is_change op)) ops) (kept caller serial k ∷ [])

module _ (settings : SettingsValue) where
  pub keeping_none : (number : ℕ) (ops : List Operation) (p : PassValue) (k : Kept)
      → is_kept settings ops k ≡ false → publishes_now settings number ops p (keeping k) ≡ None
  keeping_none number ops p k lacks =
      ap (λ (b : Bool). if b then Some
      (kept number (others_made is_change (publishes settings) number ops p.items) k) else None)
      lacks

  pub keeping_some : (number : ℕ) (ops : List Operation) (p : PassValue) (k : Kept)
      → is_kept settings ops k ≡ true
      → publishes_now settings number ops p (keeping k)
      ≡ Some (kept number (others_made is_change (publishes settings) number ops p.items) k)
  keeping_some number ops p k has = ap
      (λ (b : Bool). if b then Some
      (kept number (others_made is_change (publishes settings) number ops p.items) k) else None) has

  -- what is told of it
  pub kept_so : (number : ℕ) (ops : List Operation) (p : PassValue) (k : Kept)
      → is_kept settings ops k ≡ true
      → was_kept ≡ (if is_some (publishes_now settings number ops p (keeping k)) then was_kept else
      was_not_kept)
  kept_so number ops p k has =
      ap (λ (o : Option Operation). if is_some o then was_kept else was_not_kept)
      (sym (keeping_some number ops p k has))

  pub not_kept_so : (number : ℕ) (ops : List Operation) (p : PassValue) (k : Kept)
      → is_kept settings ops k ≡ false
      → was_not_kept ≡ (if is_some (publishes_now settings number ops p (keeping k)) then was_kept
      else was_not_kept)
  not_kept_so number ops p k lacks = ap
      (λ (o : Option Operation). if is_some o then was_kept else was_not_kept)
      (sym (keeping_none number ops p k lacks))

filter_le : {X : Type 0} (test : X → Bool) (xs : List X) → length (filter test xs) ≤ length xs
filter_le test [] = omega arith
filter_le test (x ∷ xs) =
    let rest = filter_le test xs in
    elim (test x) as (λ (b : Bool). length (if b then x ∷ filter test xs else filter test xs)
    ≤ length (x ∷ xs)) [ true ↦ omega (arith, rest) | false ↦ omega (arith, rest) ]

-- no more delegations are kept than operations were published
pub kept_few : (w : World) → Holds w → w.keeps ≤ length (ops_of w)
kept_few w holds =
    omega (arith, holds.keeps, filter_le (λ (op : Operation). not (is_change op)) (ops_of w))

-- why a delegation is not kept
module _ (settings : SettingsValue) (ops : List Operation) (k : Kept) where
  pub large_no : is_large k ≡ true → is_kept settings ops k ≡ false
  large_no h = ap (λ (b : Bool).
      not (b || (is_late ops k || (is_had settings ops k || are_spent ops)))) h

  pub late_no : is_large k ≡ false → is_late ops k ≡ true → is_kept settings ops k ≡ false
  late_no a h = ap (λ (b : Bool).
      not (b || (is_late ops k || (is_had settings ops k || are_spent ops)))) a
      ∙ ap (λ (b : Bool). not (b || (is_had settings ops k || are_spent ops))) h

  pub had_no : is_large k ≡ false → is_late ops k ≡ false → is_had settings ops k ≡ true
      → is_kept settings ops k ≡ false
  had_no a b h =
      ap (λ (b : Bool). not (b || (is_late ops k || (is_had settings ops k || are_spent ops)))) a
      ∙ (ap (λ (b : Bool). not (b || (is_had settings ops k || are_spent ops))) b
      ∙ ap (λ (b : Bool). not (b || are_spent ops)) h)

  pub unless_spent : is_large k ≡ false → is_late ops k ≡ false → is_had settings ops k ≡ false
      → is_kept settings ops k ≡ not (are_spent ops)
  unless_spent a b c =
      ap (λ (b : Bool). not (b || (is_late ops k || (is_had settings ops k || are_spent ops)))) a
      ∙ (ap (λ (b : Bool). not (b || (is_had settings ops k || are_spent ops))) b
      ∙ ap (λ (b : Bool). not (b || are_spent ops)) c)

-- what is below a bound is not at it, or above
pub below_is : (n m : ℕ) → nat_lt n m ≡ not (nat_le m n)
below_is n m = below_case (nat_lt n m) (nat_le m n) refl refl where
  below_case : (s t : Bool) → nat_lt n m ≡ s → nat_le m n ≡ t → s ≡ not t
  below_case true true is at = absurd
      (let a : n < m = grind (arith, nat_tests) in let b : m ≤ n = grind (arith, nat_tests) in
      omega (arith, a, b))
  below_case true false is at = refl
  below_case false true is at = refl
  below_case false false is at = absurd
      (let a : m ≤ n = grind (arith, nat_tests) in let b : n < m = grind (arith, nat_tests) in
      omega (arith, a, b))

some_map : {X Y : Type 0} (f : X → Y) (o : Option X) → is_some (option_map f o) ≡ is_some o
some_map f None = refl
some_map f (Some x) = refl

-- another one is kept where the cache has it
pub had_is : {X : Type 0} (w : World) (k : Kept) (f : X → Ending) (o : Option X) → Holds w
    → option_map f o ≡ found_in (bindings_of w.cache) k.path k.local
    → is_some o ≡ is_had (settings_of w.settings) (ops_of w) k
had_is w k f o holds found =
    sym (some_map f o) ∙ (ap is_some found
    ∙ ap (λ (v : Value). is_some (found_in v.cache k.path k.local)) holds.value)

-- what a pass worked out last fits where it may be kept
pub fits_here : (w : World) (number serial : ℕ) (p : Pass) (k : Kept) → Holds w
    → slice_get w.passes.items number ≡ Some p → Some k ≡ option_map kept_in_arc p.fresh
    → is_kept (settings_of w.settings) (ops_of w) k ≡ true
    → Fits (settings_of w.settings) (value_of (settings_of w.settings) (ops_of w))
    (kept number serial k)
fits_here w number serial p k holds here fresh has =
    let S = settings_of w.settings in
    let ok = holds.world.all number (pass_of p) (get-map pass_of w.passes.items number p here) in
    kept_here S (ops_of w) number 0 serial k (kept number serial k) (ok.fresh k (sym fresh))
    (ap (λ (b : Bool). if b then Some (kept number serial k) else None) has)

pub none_like : (w : World) (number : ℕ) (p : Pass) (k : Kept) → Holds w
    → slice_get w.passes.items number ≡ Some p → Some k ≡ option_map kept_in_arc p.fresh
    → is_kept (settings_of w.settings) (ops_of w) k ≡ true
    → found_in (bindings_of w.cache) k.path k.local ≡ None
none_like w number p k holds here fresh has =
    let fits = fits_here w number 0 p k holds here fresh has in
    ap (λ (v : Value). found_in v.cache k.path k.local) holds.value ∙ fits.2

pub is_cheap : (w : World) (number : ℕ) (p : Pass) (k : Kept) → Holds w
    → slice_get w.passes.items number ≡ Some p → Some k ≡ option_map kept_in_arc p.fresh
    → is_kept (settings_of w.settings) (ops_of w) k ≡ true
    → k.cost ≤ 256
is_cheap w number p k holds here fresh has = (fits_here w number 0 p k holds here fresh has).1

-- a pass keeps what it worked out last
pub keeps_it : (old new : World) (number point serial : ℕ) (p x q : Pass) (k : Kept) → Holds old
    → slice_get old.passes.items number ≡ Some p → x ≡ get_or old.passes.items number x
    → point ≡ length (ops_of old)
    → serial ≡ x.keeps → Some k ≡ option_map kept_in_arc p.fresh
    → is_kept (settings_of old.settings) (ops_of old) k ≡ true
    → pass_of q ≡ pass_with x (keeping k) point (point + 1) → q.flight ≡ x.flight
    → q.changes ≡ x.changes → q.keeps ≡ serial + 1
    → settings_of new.settings ≡ settings_of old.settings
    → ops_of new ≡ ops_of old ++ kept number serial k ∷ []
    → new.passes.items ≡ set old.passes.items number q
    → state_of new.state ≡ state_of old.state → bindings_of new.cache
    ≡ kept_in (bindings_of old.cache) k → new.keeps ≡ old.keeps + 1
    → Becomes old new (called (settings_of old.settings) (world_of old) number (pass_of p)
    (keeping k))
keeps_it old new number point serial p x q k holds here is point_is serial_is fresh has pass flight
    changes keeps settings ops passes state cache count =
    let S = settings_of old.settings in
    let same = same_pass old.passes.items number p x here is in
    let op = kept number serial k in
    let made : serial ≡ others_made is_change (publishes S) number (ops_of old) (items_of p) =
    serial_is ∙ (ap (λ (y : Pass). y.keeps) same ∙ (holds.passes number p here).keeps) in
    let found : publishes_now S number (ops_of old) (pass_of p) (keeping k) ≡ Some op =
    keeping_some S number (ops_of old) (pass_of p) k has
    ∙ ap (λ n. Some (kept number n k)) (sym made) in
    let longer = length-append (ops_of old) (op ∷ []) in
    let pass_is : pass_of q ≡ with_call S (pass_of p) (keeping k) (ops_of old)
    (ops_of old ++ op ∷ []) =
    pass ∙ (ap (λ (y : Pass). pass_with y (keeping k) point (point + 1)) same
    ∙ (ap (λ n. pass_with p (keeping k) n (n + 1)) point_is
    ∙ ap (λ n. pass_with p (keeping k) (length (ops_of old)) n) (sym longer))) in
    let make : StateValue → List Kept → Value = λ s ks. record { state = s; cache = ks } in
    let taken : value_in new ≡ applied S (value_in old) op =
    ap (λ (s : StateValue). make s (bindings_of new.cache)) state
    ∙ ap (make (state_of old.state)) cache in
    let pushed : value_in new ≡ value_of S (ops_of old ++ op ∷ []) =
    taken ∙ (ap (λ (v : Value). applied S v op) holds.value ∙ sym (value_push S (ops_of old) op)) in
    let fits = fits_here old number serial p k holds here fresh has in
    becomes old new number p q (keeping k) (Some op) holds here settings found ops passes pass_is
    (flight ∙ ap (λ (y : Pass). y.flight) same) (changes ∙ ap (λ (y : Pass). y.changes) same)
    (keeps ∙ ap (λ n. n + 1) (serial_is ∙ ap (λ (y : Pass). y.keeps) same)) pushed
    (count ∙ (ap (λ n. n + 1) holds.keeps ∙ sym (kept_count_kept (ops_of old) number serial k)))
    (λ o e. let it : op ≡ o = cc in subst (λ (y : Operation). Fits S (value_of S (ops_of old)) y)
    it fits)
