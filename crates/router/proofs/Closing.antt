-- What the passes of a router show together at its end.
use Rattle.std.proofs.Common.{◌≡◌, ℕ, zero, suc, ◌+◌, ◌<◌, ◌≤◌, List, [], ◌∷◌, length, map, Some}
use Rattle.std.proofs.Common.{slice_get, refl, arith, ap, sym, ◌∙◌, subst}
use Rattle.std.specs.Prelude.{All, filter, not, sum_by}
use Rattle.std.proofs.lemmas.List.Elements.{All-cons, All-head, All-tail, All-nil}
use Rattle.std.proofs.lemmas.List.Sums.{sum_by-cons}
use mathlib.Core.List.{IsPrefix}
use Rattle.machine.specs.Values.{SettingsValue}
use Rattle.one_history.specs.Calls.{Placed}
use Rattle.one_history.specs.Entries.{changes_made, others_made}
use Rattle.one_history.specs.Order.{InOrder, Distinct, OfCaller, changes_of_all}
use Rattle.one_history.proofs.Growing.{placed_grown, changes_grown, others_grown}
use Rattle.one_history.proofs.Owning.{count_shows_order}
use Rattle.router_log.specs.Call.{Call, publishes}
use Rattle.router_log.specs.Operation.{Operation, is_change, caller_of, place_of, kept_count}
use Rattle.router_log.proofs.Publishing.{of_caller}
use Rattle.router.specs.declared.naming.Naming.{Ghosts}
use Rattle.router.specs.declared.pass.Pass.{Pass}
use Rattle.router.specs.declared.update.Update.{Update}
use Rattle.router_log.specs.Value.{AllFit, opening_value}
use Rattle.snap_cell.specs.Legal.{AllFit as Legal}
use Rattle.snap_cell.specs.Views.{seen_of}
use Rattle.router.specs.declared.current.Current.{Current}
use Rattle.router.specs.Closing.{IsOf, IsClosed, numbers_of, own_kept, published_in}
use Rattle.router.proofs.Swapping.{is_other, swapped, entries_swap, made_swap, placed_swap}
use Rattle.router.proofs.Swapping.{of_caller_swap}
use Rattle.router.specs.Values.{settings_in, IsEmpty}
use Rattle.router.specs.Whole.{with_update, shown_by}
use Rattle.router.proofs.Calling.{prefix_values}
use Rattle.router.proofs.Entering.{fits_shown, whole_fits}
use Rattle.router.specs.Passes.{number_in, seen_in, items_in, made_in, kept_in}
use Rattle.router.specs.Update.{operation_of, operations_of}
use Rattle.router.proofs.Numbers.{all_there}

pub get_map : {A B : Type 0} (f : A → B) (xs : List A) (i : ℕ) (y : B)
    → slice_get (map f xs) i ≡ Some y → (x : A) × (slice_get xs i ≡ Some x) × (f x ≡ y)
get_map f [] i y at = absurd cc
get_map f (x ∷ xs) zero y at = (x, refl, cc at)
get_map f (x ∷ xs) (suc i) y at = get_map f xs i y at

pub map_get : {A B : Type 0} (f : A → B) (xs : List A) (i : ℕ) (x : A) → slice_get xs i ≡ Some x
    → slice_get (map f xs) i ≡ Some (f x)
map_get f [] i x at = absurd cc
map_get f (y ∷ xs) zero x at = cc at
map_get f (y ∷ xs) (suc i) x at = map_get f xs i x at

pub map_length : {A B : Type 0} (f : A → B) (xs : List A) → length (map f xs) ≡ length xs
map_length f [] = refl
map_length f (x ∷ xs) = ap suc (map_length f xs)

pub all_of_each : {A : Type 0} (P : A → Type 0) (xs : List A)
    → ((i : ℕ) (x : A) → slice_get xs i ≡ Some x → P x) → All P xs
all_of_each P [] each = All-nil P
all_of_each P (x ∷ xs) each = All-cons P x xs (each 0 x refl)
    (all_of_each P xs (λ i y at. each (suc i) y at))

pub all_map : {A B : Type 0} (f : A → B) (P : B → Type 0) (xs : List A) → All (λ x. P (f x)) xs
    → All P (map f xs)
all_map f P [] all = All-nil P
all_map f P (x ∷ xs) all = All-cons P (f x) (map f xs) (All-head (λ y. P (f y)) x xs all)
    (all_map f P xs (All-tail (λ y. P (f y)) x xs all))

-- where two sums are one, and neither first part is less than the other sum's unless they are one,
-- nor the second parts, all is the same
balanced : (p k m q : ℕ) → p + k ≡ m + q → (p ≤ m → p ≡ m) → (k ≤ q → k ≡ q) → (m ≡ p) × (q ≡ k)
balanced p k m q total made kept =
    (grind (arith, total, made, kept), grind (arith, total, made, kept))

-- the delegations that a caller gave, and that were kept, stand in order
abbrev KeptInOrder : SettingsValue → List Operation → ℕ × List (Call × ℕ) → Type 0
KeptInOrder settings ops c = InOrder (is_other is_change (publishes settings))
    (swapped is_change (publishes settings)) caller_of c.0 ops c.1

module _ {J : Type 0} {g : Ghosts J} where
  abbrev callers_in : List (Pass J g) → List (ℕ × List (Call × ℕ))
  callers_in ps = map (λ p. (number_in p, items_in p)) ps

  callers_numbers : (ps : List (Pass J g)) → map (λ (c : ℕ × List (Call × ℕ)). c.0) (callers_in ps)
      ≡ numbers_of ps
  callers_numbers [] = refl
  callers_numbers (p ∷ ps) = ap (λ (ns : List ℕ). number_in p ∷ ns) (callers_numbers ps)

  module _ (ops : List Operation) where
    abbrev Seen : Pass J g → Type 0
    Seen p = IsPrefix (seen_in p) ops

    placed_here : (p : Pass J g) → Seen p
        → Placed is_change (publishes g.settings) (number_in p) ops (items_in p)
    placed_here p s = subst
        (λ (l : List Operation). Placed is_change (publishes g.settings) (number_in p) l
        (items_in p)) s.1 (placed_grown is_change (publishes g.settings) (number_in p)
        (seen_in p) s.0 (items_in p) p.stands.placed)

    all_placed : (ps : List (Pass J g)) → All Seen ps
        → All (λ (c : ℕ × List (Call × ℕ)). Placed is_change (publishes g.settings) c.0 ops c.1)
        (callers_in ps)
    all_placed [] all = All-nil (λ (c : ℕ × List (Call × ℕ)).
        Placed is_change (publishes g.settings) c.0 ops c.1)
    all_placed (p ∷ ps) all =
        All-cons (λ (c : ℕ × List (Call × ℕ)). Placed is_change (publishes g.settings) c.0 ops c.1)
        (number_in p, items_in p) (callers_in ps) (placed_here p (All-head Seen p ps all))
        (all_placed ps (All-tail Seen p ps all))

    all_own : (ps : List (Pass J g)) → All
        (λ (c : ℕ × List (Call × ℕ)). OfCaller is_change (publishes g.settings) caller_of c.0)
        (callers_in ps)
    all_own [] = All-nil (λ (c : ℕ × List (Call × ℕ)).
        OfCaller is_change (publishes g.settings) caller_of c.0)
    all_own (p ∷ ps) = All-cons (λ (c : ℕ × List (Call × ℕ)).
        OfCaller is_change (publishes g.settings) caller_of c.0) (number_in p, items_in p)
        (callers_in ps) (of_caller g.settings (number_in p)) (all_own ps)

    made_here : (p : Pass J g) → Seen p
        → changes_made is_change (publishes g.settings) (number_in p) ops (items_in p) ≡ p.made
    made_here p s =
        ap (λ (l : List Operation). changes_made is_change (publishes g.settings) (number_in p) l
        (items_in p)) (sym s.1)
        ∙ (changes_grown is_change (publishes g.settings) (number_in p) (seen_in p) s.0 0 0
        (items_in p) p.stands.placed.within ∙ sym p.stands.made_is)

    made_by_all : (ps : List (Pass J g)) → All Seen ps
        → changes_of_all is_change (publishes g.settings) caller_of ops (callers_in ps)
        ≡ sum_by (λ (p : Pass J g). p.made) ps
    made_by_all [] all = refl
    made_by_all (p ∷ ps) all =
        omega (
          arith,
          made_here p (All-head Seen p ps all),
          made_by_all ps (All-tail Seen p ps all),
          sum_by-cons (λ (q : Pass J g). q.made) p ps,
        )

    -- the same of the delegations that were kept
    others_placed : (ps : List (Pass J g)) → All Seen ps
        → All (λ (c : ℕ × List (Call × ℕ)). Placed (is_other is_change (publishes g.settings))
        (swapped is_change (publishes g.settings)) c.0 ops c.1) (callers_in ps)
    others_placed [] all =
        All-nil (λ (c : ℕ × List (Call × ℕ)). Placed (is_other is_change (publishes g.settings))
        (swapped is_change (publishes g.settings)) c.0 ops c.1)
    others_placed (p ∷ ps) all =
        All-cons (λ (c : ℕ × List (Call × ℕ)). Placed (is_other is_change (publishes g.settings))
        (swapped is_change (publishes g.settings)) c.0 ops c.1) (number_in p, items_in p)
        (callers_in ps)
        (placed_swap is_change (publishes g.settings) (number_in p) ops (items_in p)
        (placed_here p (All-head Seen p ps all))) (others_placed ps (All-tail Seen p ps all))

    others_own : (ps : List (Pass J g))
        → All (λ (c : ℕ × List (Call × ℕ)). OfCaller (is_other is_change (publishes g.settings))
        (swapped is_change (publishes g.settings)) caller_of c.0) (callers_in ps)
    others_own [] = All-nil (λ (c : ℕ × List (Call × ℕ)).
        OfCaller (is_other is_change (publishes g.settings))
        (swapped is_change (publishes g.settings)) caller_of c.0)
    others_own (p ∷ ps) =
        All-cons (λ (c : ℕ × List (Call × ℕ)). OfCaller (is_other is_change (publishes g.settings))
        (swapped is_change (publishes g.settings)) caller_of c.0) (number_in p, items_in p)
        (callers_in ps)
        (of_caller_swap is_change (publishes g.settings) caller_of (number_in p)
        (of_caller g.settings (number_in p))) (others_own ps)

    kept_here : (p : Pass J g) → Seen p
        → changes_made (is_other is_change (publishes g.settings))
        (swapped is_change (publishes g.settings)) (number_in p) ops (items_in p) ≡ p.kept
    kept_here p s =
        made_swap is_change (publishes g.settings) (number_in p) ops 0 0 (items_in p)
        ∙ (ap (λ (l : List Operation). others_made is_change (publishes g.settings) (number_in p) l
        (items_in p)) (sym s.1)
        ∙ (others_grown is_change (publishes g.settings) (number_in p) (seen_in p) s.0 0 0
        (items_in p) p.stands.placed.within ∙ sym p.stands.kept_is))

    kept_by_all : (ps : List (Pass J g)) → All Seen ps
        → changes_of_all (is_other is_change (publishes g.settings))
        (swapped is_change (publishes g.settings)) caller_of ops (callers_in ps)
        ≡ sum_by (λ (p : Pass J g). p.kept) ps
    kept_by_all [] all = refl
    kept_by_all (p ∷ ps) all =
        omega (
          arith,
          kept_here p (All-head Seen p ps all),
          kept_by_all ps (All-tail Seen p ps all),
          sum_by-cons (λ (q : Pass J g). q.kept) p ps,
        )

    others_own_is : (p : Pass J g) → KeptInOrder g.settings ops (number_in p, items_in p)
        → own_kept (number_in p) ops ≡ filter (λ (op : Operation). not (is_change op))
        (published_in ops p)
    others_own_is p order =
        order.own ∙ ap (λ (es : List (Operation × ℕ)). filter
        (λ (op : Operation). not (is_change op)) (map (λ (e : Operation × ℕ). e.0) es))
        (entries_swap is_change (publishes g.settings) (number_in p) ops 0 0 (items_in p))

    each_is_of : (ps : List (Pass J g)) → All Seen ps
        → All (λ (c : ℕ × List (Call × ℕ)). InOrder is_change
        (publishes g.settings) caller_of c.0 ops c.1) (callers_in ps)
        → All (KeptInOrder g.settings ops) (callers_in ps) → All (IsOf ops) ps
    each_is_of [] all order others = All-nil (IsOf ops)
    each_is_of (p ∷ ps) all order others =
        let O = λ (c : ℕ × List (Call × ℕ)). InOrder is_change
        (publishes g.settings) caller_of c.0 ops c.1 in
        let c : ℕ × List (Call × ℕ) = (number_in p, items_in p) in
        All-cons (IsOf ops) p ps
        (record {
          seen = All-head Seen p ps all;
          order = All-head O c (callers_in ps) order;
          kept =
              others_own_is p (All-head (KeptInOrder g.settings ops) c (callers_in ps) others);
        })
        (each_is_of ps (All-tail Seen p ps all) (All-tail O c (callers_in ps) order)
        (All-tail (KeptInOrder g.settings ops) c (callers_in ps) others))

    -- passes of which no two are one have made as many changes, and given as many kept delegations,
    -- as there are
    pub record AreAll (ps : List (Pass J g)) : Type 0 where
      pub made : sum_by (λ (p : Pass J g). p.made) ps ≡ place_of ops
      pub kept : sum_by (λ (p : Pass J g). p.kept) ps ≡ kept_count ops
      pub each : All (IsOf ops) ps

    -- where they made and gave as many operations as there are
    pub all_in_order : (ps : List (Pass J g)) → Distinct (numbers_of ps) → All Seen ps
        → place_of ops + kept_count ops ≡ sum_by (λ (p : Pass J g). p.made) ps
        + sum_by (λ (p : Pass J g). p.kept) ps → AreAll ps
    all_in_order ps distinct all total =
        let one = subst Distinct (sym (callers_numbers ps)) distinct in
        let changes = count_shows_order is_change (publishes g.settings) caller_of ops
        (callers_in ps) one (all_own ps) (all_placed ps all) in
        let others = count_shows_order (is_other is_change (publishes g.settings))
        (swapped is_change (publishes g.settings)) caller_of ops (callers_in ps) one
        (others_own ps) (others_placed ps all) in
        let few_made : place_of ops ≤ sum_by (λ (p : Pass J g). p.made) ps
        → place_of ops ≡ sum_by (λ (p : Pass J g). p.made) ps =
        λ le. (changes (omega (arith, le, made_by_all ps all))).1 ∙ made_by_all ps all in
        let few_kept : kept_count ops ≤ sum_by (λ (p : Pass J g). p.kept) ps
        → kept_count ops ≡ sum_by (λ (p : Pass J g). p.kept) ps =
        λ le. (others (omega (arith, le, kept_by_all ps all))).1 ∙ kept_by_all ps all in
        let same = balanced (place_of ops) (kept_count ops) (sum_by (λ (p : Pass J g). p.made) ps)
        (sum_by (λ (p : Pass J g). p.kept) ps) total few_made few_kept in
        record {
          made = same.0;
          kept = same.1;
          each = each_is_of ps all
              (changes (omega (arith, same.0, made_by_all ps all))).0
              (others (omega (arith, same.1, kept_by_all ps all))).0;
        }

  made_is_in : (p : Pass J g) → p.made ≡ made_in p
  made_is_in p = p.stands.made_is

  -- what the passes count is what their calls published
  made_is_counted : (ps : List (Pass J g)) → sum_by (λ (p : Pass J g). p.made) ps
      ≡ sum_by made_in ps
  made_is_counted [] = refl
  made_is_counted (p ∷ ps) =
      let here = made_is_in p in
      let rest = made_is_counted ps in
      let counts = sum_by-cons (λ (q : Pass J g). q.made) p ps in
      let calls = sum_by-cons made_in p ps in
      omega (arith, here, rest, counts, calls)

  kept_is_counted : (ps : List (Pass J g)) → sum_by (λ (p : Pass J g). p.kept) ps
      ≡ sum_by kept_in ps
  kept_is_counted [] = refl
  kept_is_counted (p ∷ ps) =
      omega (
        arith,
        p.stands.kept_is,
        kept_is_counted ps,
        sum_by-cons (λ (q : Pass J g). q.kept) p ps,
        sum_by-cons kept_in p ps,
      )

  -- what they count in all
  both_counted : (ps : List (Pass J g)) → sum_by (λ (p : Pass J g). p.made + p.kept) ps
      ≡ sum_by (λ (p : Pass J g). p.made) ps + sum_by (λ (p : Pass J g). p.kept) ps
  both_counted [] = refl
  both_counted (p ∷ ps) =
      omega (
        arith,
        both_counted ps,
        sum_by-cons (λ (q : Pass J g). q.made + q.kept) p ps,
        sum_by-cons (λ (q : Pass J g). q.made) p ps,
        sum_by-cons (λ (q : Pass J g). q.kept) p ps,
      )

  -- each caller is one of the passes, where they have all the numbers
  pub all_callers : (ps : List (Pass J g)) (us : List Update) (seats : ℕ)
      → Distinct (numbers_of ps) → All (λ n. n < seats) (numbers_of ps) → seats ≤ length ps
      → All (λ u. caller_of (operation_of u) < seats) us
      → All (λ op. (i : ℕ) × (p : Pass J g) × (slice_get ps i ≡ Some p)
      × (caller_of op ≡ number_in p)) (operations_of us)
  all_callers ps us seats distinct below many callers =
      let Q = λ (op : Operation). (i : ℕ) × (p : Pass J g) × (slice_get ps i ≡ Some p)
      × (caller_of op ≡ number_in p) in
      all_map operation_of Q us (all_callers_of us callers) where
        all_callers_of : (vs : List Update) → All (λ u. caller_of (operation_of u) < seats) vs
            → All (λ u. (i : ℕ) × (p : Pass J g) × (slice_get ps i ≡ Some p)
            × (caller_of (operation_of u) ≡ number_in p)) vs
        all_callers_of [] all =
            All-nil (λ (u : Update). (i : ℕ) × (p : Pass J g) × (slice_get ps i ≡ Some p)
            × (caller_of (operation_of u) ≡ number_in p))
        all_callers_of (v ∷ vs) all =
            let there = all_there seats (numbers_of ps) distinct below
            (omega (arith, many, map_length number_in ps)) (caller_of (operation_of v))
            (All-head (λ (u : Update). caller_of (operation_of u) < seats) v vs all) in
            let pass = get_map number_in ps there.0 (caller_of (operation_of v)) there.1 in
            All-cons (λ (u : Update). (i : ℕ) × (p : Pass J g) × (slice_get ps i ≡ Some p)
            × (caller_of (operation_of u) ≡ number_in p)) v vs
            (there.0, pass.0, pass.1, sym pass.2)
            (all_callers_of vs (All-tail (λ (u : Update). caller_of (operation_of u) < seats) v vs
            all))

  -- all of it, at the end
  pub closed_is : (place kept amount seats : ℕ) (ps : List (Pass J g)) (us : List Update)
      (o : Current) → place ≡ place_of (operations_of us) → kept ≡ kept_count (operations_of us)
      → IsEmpty o
      → Legal with_update fits_shown (shown_by o) us → settings_in o ≡ g.settings
      → All (λ u. caller_of (operation_of u) < seats) us → Distinct (numbers_of ps)
      → ((i : ℕ) (p : Pass J g) → slice_get ps i ≡ Some p → number_in p < seats) → seats ≤ length ps
      → ((i : ℕ) (p : Pass J g) → slice_get ps i ≡ Some p → IsPrefix (seen_of p.reader) us)
      → amount ≡ sum_by (λ (p : Pass J g). p.made + p.kept) ps → amount ≡ place + kept
      → IsClosed place ps
  closed_is place kept amount seats ps us o place_is kept_is empty legal settings callers distinct
      below many seen made counted =
      let ops = operations_of us in
      let all = all_of_each (λ (p : Pass J g). IsPrefix (seen_in p) ops) ps
      (λ i p at. prefix_values (seen_of p.reader) us (seen i p at)) in
      let order = all_in_order ops ps distinct all
      (omega (arith, place_is, kept_is, made, counted, both_counted ps)) in record {
        ops = ops;
        place_is = sym place_is;
        made = sym (made_is_counted ps) ∙ (order.made ∙ sym place_is);
        kept = sym (kept_is_counted ps) ∙ order.kept;
        fit = subst (λ (s : SettingsValue). AllFit s opening_value ops) settings
            (whole_fits o us empty legal);
        passes_are = order.each;
        callers = all_callers ps us seats distinct
            (all_map number_in (λ (n : ℕ). n < seats) ps
            (all_of_each (λ (p : Pass J g). number_in p < seats) ps below)) many callers;
      }
