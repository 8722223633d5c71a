-- What a call does to how its caller stands.
use Rattle.std.proofs.Common.{◌≡◌, ℕ, ◌+◌, ◌≤◌, Bool, true, false, List, [], ◌∷◌, ◌++◌, length}
use Rattle.std.proofs.Common.{take, Option, Some, None, refl, ap, sym, ◌∙◌, arith, subst}
use Rattle.std.specs.Prelude.{filter, not}
use Rattle.std.proofs.lemmas.List.Elements.{filter-append}
use Rattle.std.proofs.lemmas.List.{length-append}
use mathlib.Core.List.{IsPrefix}
use Rattle.machine.specs.Values.{SettingsValue}
use Rattle.one_history.specs.Entries.{changes_with, others_with, changes_after, others_after}
use Rattle.one_history.specs.Entries.{changes_made, others_made}
use Rattle.one_history.specs.Calls.{Placed, Called}
use Rattle.one_history.proofs.Growing.{placed_called, placed_grown, changes_grown, others_grown}
use Rattle.router_log.specs.Operation.{Operation, is_change, place_of, kept_count}
use Rattle.router_log.specs.Call.{Call, publishes}
use Rattle.router.specs.Standing.{Stands}

pub place_more : (xs ys : List Operation) → place_of (xs ++ ys) ≡ place_of xs + place_of ys
place_more xs ys = ap length (filter-append is_change xs ys)
    ∙ length-append (filter is_change xs) (filter is_change ys)

pub kept_more : (xs ys : List Operation) → kept_count (xs ++ ys) ≡ kept_count xs + kept_count ys
kept_more xs ys = ap length (filter-append (λ op. not (is_change op)) xs ys)
    ∙ length-append (filter (λ op. not (is_change op)) xs) (filter (λ op. not (is_change op)) ys)

pub place_grown : (xs ys : List Operation) → IsPrefix xs ys → place_of xs ≤ place_of ys
place_grown xs ys p = omega (arith, place_more xs p.0, ap place_of p.1)

pub kept_grown : (xs ys : List Operation) → IsPrefix xs ys → kept_count xs ≤ kept_count ys
kept_grown xs ys p = omega (arith, kept_more xs p.0, ap kept_count p.1)

-- with one call more a caller has what that published besides
module _ {O C : Type 0} (change : O → Bool) (publish : List O → ℕ → ℕ → ℕ → C → Option O)
    (caller : ℕ) where
  changes_push : (seen : List O) (c o : ℕ) (items : List (C × ℕ)) (item : C × ℕ)
      → changes_after change publish caller seen c o (items ++ item ∷ [])
      ≡ changes_with change publish
      (publish (take item.1 seen) caller (changes_after change publish caller seen c o items)
      (others_after change publish caller seen c o items) item.0)
      (changes_after change publish caller seen c o items)
  changes_push seen c o [] item = refl
  changes_push seen c o (first ∷ items) item =
      let found = publish (take first.1 seen) caller c o first.0 in
      changes_push seen (changes_with change publish found c)
      (others_with change publish found o) items item

  others_push : (seen : List O) (c o : ℕ) (items : List (C × ℕ)) (item : C × ℕ)
      → others_after change publish caller seen c o (items ++ item ∷ [])
      ≡ others_with change publish
      (publish (take item.1 seen) caller (changes_after change publish caller seen c o items)
      (others_after change publish caller seen c o items) item.0)
      (others_after change publish caller seen c o items)
  others_push seen c o [] item = refl
  others_push seen c o (first ∷ items) item =
      let found = publish (take first.1 seen) caller c o first.0 in
      others_push seen (changes_with change publish found c)
      (others_with change publish found o) items item

  module _ (seen seen' : List O) (items items' : List (C × ℕ)) (call : C) (at : ℕ)
      (placed : Placed change publish caller seen items)
      (called : Called change publish caller seen seen' items items' call at) where
    abbrev made : ℕ
    made = changes_made change publish caller seen items

    abbrev others : ℕ
    others = others_made change publish caller seen items

    made_before : changes_made change publish caller seen' items ≡ made
    made_before = ap (λ (l : List O). changes_made change publish caller l items)
        (sym called.before.1) ∙ changes_grown change publish caller seen called.before.0 0 0 items
        placed.within

    others_before : others_made change publish caller seen' items ≡ others
    others_before = ap (λ (l : List O). others_made change publish caller l items)
        (sym called.before.1) ∙ others_grown change publish caller seen called.before.0 0 0 items
        placed.within

    pub made_then : changes_made change publish caller seen' items'
        ≡ changes_with change publish (publish (take at seen') caller made others call) made
    made_then =
        ap (λ (l : List (C × ℕ)). changes_made change publish caller seen' l) called.item
        ∙ (changes_push seen' 0 0 items (call, at)
        ∙ (ap (λ (k : ℕ). changes_with change publish
        (publish (take at seen') caller k (others_made change publish caller seen' items) call) k)
        made_before
        ∙ ap (λ (k : ℕ). changes_with change publish (publish (take at seen') caller made k call)
        made) others_before))

    pub others_then : others_made change publish caller seen' items'
        ≡ others_with change publish (publish (take at seen') caller made others call) others
    others_then =
        ap (λ (l : List (C × ℕ)). others_made change publish caller seen' l) called.item
        ∙ (others_push seen' 0 0 items (call, at)
        ∙ (ap (λ (k : ℕ). others_with change publish
        (publish (take at seen') caller k (others_made change publish caller seen' items) call)
        (others_made change publish caller seen' items)) made_before
        ∙ ap (λ (k : ℕ). others_with change publish (publish (take at seen') caller made k call) k)
        others_before))

module _ (settings : SettingsValue) (caller : ℕ) where
  -- it has seen more, and nothing was called
  pub saw_more : (seen seen' : List Operation) (items : List (Call × ℕ))
      (made kept place place' : ℕ) → Stands settings caller seen items made kept place
      → IsPrefix seen seen' → place' ≡ place_of seen'
      → Stands settings caller seen' items made kept place'
  saw_more seen seen' items made kept place place' s p is =
      let within = s.placed.within in record {
        placed = subst (λ (l : List Operation). Placed is_change
            (publishes settings) caller l items) p.1
            (placed_grown is_change (publishes settings) caller seen p.0 items s.placed);
        made_is = s.made_is ∙
            (sym (changes_grown is_change (publishes settings) caller seen p.0 0 0 items within)
            ∙ ap (λ (l : List Operation). changes_made is_change
            (publishes settings) caller l items) p.1);
        kept_is = s.kept_is ∙
            (sym (others_grown is_change (publishes settings) caller seen p.0 0 0 items within)
            ∙ ap (λ (l : List Operation). others_made is_change
            (publishes settings) caller l items) p.1);
        place_is = is;
        few_made = omega (arith, s.few_made, place_grown seen seen' p);
        few_kept = omega (arith, s.few_kept, kept_grown seen seen' p);
      }

  module _ (seen seen' : List Operation) (items items' : List (Call × ℕ)) (call : Call) (at : ℕ)
      (made kept place : ℕ) (s : Stands settings caller seen items made kept place)
      (called : Called is_change (publishes settings) caller seen seen' items items' call at) where
    abbrev found : Option Operation
    found = publishes settings (take at seen') caller
        (changes_made is_change (publishes settings) caller seen items)
        (others_made is_change (publishes settings) caller seen items) call

    placed_then : Placed is_change (publishes settings) caller seen' items'
    placed_then = placed_called is_change (publishes settings) caller seen seen' items items' call
        at s.placed called

    made_is_then : made ≡ changes_made is_change (publishes settings) caller seen items
        → changes_made is_change (publishes settings) caller seen' items'
        ≡ changes_with is_change (publishes settings) found made
    made_is_then is = made_then is_change (publishes settings) caller seen seen' items items' call
        at s.placed called ∙ ap (λ (k : ℕ). changes_with is_change (publishes settings) found k)
        (sym is)

    kept_is_then : kept ≡ others_made is_change (publishes settings) caller seen items
        → others_made is_change (publishes settings) caller seen' items'
        ≡ others_with is_change (publishes settings) found kept
    kept_is_then is = others_then is_change (publishes settings) caller seen seen' items items'
        call at s.placed called
        ∙ ap (λ (k : ℕ). others_with is_change (publishes settings) found k) (sym is)

    -- the call published nothing
    pub stands_unmoved : (place' : ℕ) → found ≡ None → place' ≡ place_of seen'
        → Stands settings caller seen' items' made kept place'
    stands_unmoved place' none is = record {
      placed = placed_then;
      made_is = sym (made_is_then s.made_is
          ∙ ap (λ (o : Option Operation). changes_with is_change (publishes settings) o made) none);
      kept_is = sym (kept_is_then s.kept_is
          ∙ ap (λ (o : Option Operation). others_with is_change (publishes settings) o kept) none);
      place_is = is;
      few_made = omega (arith, s.few_made, place_grown seen seen' called.before);
      few_kept = omega (arith, s.few_kept, kept_grown seen seen' called.before);
    }

    -- it published a change, which is the last that is seen
    pub stands_changed : (before : List Operation) (op : Operation) (made' place' : ℕ)
        → found ≡ Some op → is_change op ≡ true → IsPrefix seen before → before ++ op ∷ [] ≡ seen'
        → made' ≡ made + 1 → place' ≡ place_of before + 1
        → Stands settings caller seen' items' made' kept place'
    stands_changed before op made' place' some is p last m is_place =
        let one : place_of (op ∷ []) ≡ 1 = rw is refl in
        let all : place_of seen' ≡ place_of before + 1 =
        omega (arith, ap place_of last, place_more before (op ∷ []), one) in
        let with_made : changes_with is_change (publishes settings) (Some op) made ≡ made + 1 =
        rw is refl in
        let with_kept : others_with is_change (publishes settings) (Some op) kept ≡ kept =
        rw is refl in record {
          placed = placed_then;
          made_is = m ∙ sym (made_is_then s.made_is
              ∙ (ap (λ (o : Option Operation). changes_with is_change (publishes settings) o made)
              some ∙ with_made));
          kept_is = sym (kept_is_then s.kept_is
              ∙ (ap (λ (o : Option Operation). others_with is_change (publishes settings) o kept)
              some ∙ with_kept));
          place_is = is_place ∙ sym all;
          few_made = omega (arith, s.few_made, place_grown seen before p, all, m);
          few_kept = omega (arith, s.few_kept, kept_grown seen seen' called.before);
        }

    -- it published a delegation that is kept, which is the last that is seen
    pub stands_kept : (before : List Operation) (op : Operation) (kept' place' : ℕ)
        → found ≡ Some op → is_change op ≡ false → IsPrefix seen before → before ++ op ∷ [] ≡ seen'
        → kept' ≡ kept + 1 → place' ≡ place_of before
        → Stands settings caller seen' items' made kept' place'
    stands_kept before op kept' place' some is p last m is_place =
        let none : place_of (op ∷ []) ≡ 0 = rw is refl in
        let one : kept_count (op ∷ []) ≡ 1 = rw is refl in
        let all : place_of seen' ≡ place_of before =
        omega (arith, ap place_of last, place_more before (op ∷ []), none) in
        let whole : kept_count seen' ≡ kept_count before + 1 =
        omega (arith, ap kept_count last, kept_more before (op ∷ []), one) in
        let with_made : changes_with is_change (publishes settings) (Some op) made ≡ made =
        rw is refl in
        let with_kept : others_with is_change (publishes settings) (Some op) kept ≡ kept + 1 =
        rw is refl in record {
          placed = placed_then;
          made_is = sym (made_is_then s.made_is
              ∙ (ap (λ (o : Option Operation). changes_with is_change (publishes settings) o made)
              some ∙ with_made));
          kept_is = m ∙ sym (kept_is_then s.kept_is
              ∙ (ap (λ (o : Option Operation). others_with is_change (publishes settings) o kept)
              some ∙ with_kept));
          place_is = is_place ∙ sym all;
          few_made = omega (arith, s.few_made, place_grown seen seen' called.before);
          few_kept = omega (arith, s.few_kept, kept_grown seen before p, whole, m);
        }
