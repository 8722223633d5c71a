-- Items stay in order while others publish, and with one more call.
use Rattle.std.proofs.Common.{◌≡◌, ℕ, ◌==◌, Bool, true, false, List, [], ◌∷◌, ◌++◌, length, take}
use Rattle.std.proofs.Common.{map, Some, None, Option, slice_get, refl, arith, ap, sym, ◌∙◌}
use Rattle.std.proofs.Common.{length-append}
use Rattle.std.specs.Prelude.{◌&&◌, if◌then◌else◌, filter}
use Rattle.std.specs.Option.{option_to_list}
use Rattle.std.proofs.lemmas.List.{append-nil, map-append}
use Rattle.std.proofs.lemmas.List.Elements.{filter-append}
use Rattle.std.proofs.lemmas.Bool.Decides.{Decides-eqb}
use Rattle.std.proofs.Math.Seq.{take-length}
use Rattle.one_history.specs.Entries.{entry_at, changes_made, others_made, entries}
use Rattle.one_history.specs.Calls.{Called}
use Rattle.one_history.specs.Order.{own_changes, InOrder, OfCaller, OthersLeaveOrder}
use Rattle.one_history.specs.Order.{CallKeepsOrder}
use Rattle.one_history.proofs.Growing.{take_grown, entries_grown, changes_grown, others_grown}
use Rattle.one_history.proofs.Growing.{placed_grown, entries_push, placed_called}

get_end : {A : Type 0} (xs ys : List A) (y : A) → slice_get (xs ++ y ∷ ys) (length xs) ≡ Some y
get_end [] ys y = refl
get_end (x ∷ xs) ys y = get_end xs ys y

and_true : {O : Type 0} (b : Bool) (op : O) → (if b && true then op ∷ [] else [])
    ≡ (if b then op ∷ [] else [])
and_true true op = refl
and_true false op = refl

module _ {O C : Type 0} (is_change : O → Bool) (publishes : List O → ℕ → ℕ → ℕ → C → Option O)
    (caller_of : O → ℕ) where
  abbrev is_own : ℕ → O → Bool
  is_own caller op = is_change op && (caller_of op == caller)

  abbrev first_of : O × ℕ → O
  first_of entry = entry.0

  pub others_leave_order : OthersLeaveOrder is_change publishes caller_of
  others_leave_order caller seen items op h other = record {
    placed = placed_grown is_change publishes caller seen (op ∷ []) items h.placed;
    own = filter-append (is_own caller) seen (op ∷ [])
        ∙ (ap (λ (b : Bool). own_changes is_change publishes caller_of caller seen
        ++ (if b then op ∷ [] else [])) other
        ∙ (append-nil (own_changes is_change publishes caller_of caller seen)
        ∙ (h.own ∙ ap (λ (es : List (O × ℕ)). filter is_change (map first_of es))
        (sym (entries_grown is_change publishes caller seen
        (op ∷ []) 0 0 items h.placed.within)))));
  }

  -- a longer list in which no change is the caller's
  pub grown_in_order : (caller : ℕ) (seen more : List O) (items : List (C × ℕ))
      → InOrder is_change publishes caller_of caller seen items
      → own_changes is_change publishes caller_of caller more ≡ []
      → InOrder is_change publishes caller_of caller (seen ++ more) items
  grown_in_order caller seen more items h none = record {
    placed = placed_grown is_change publishes caller seen more items h.placed;
    own = filter-append (is_own caller) seen more
        ∙ (ap (λ (ops : List O). own_changes is_change publishes caller_of caller seen ++ ops) none
        ∙ (append-nil (own_changes is_change publishes caller_of caller seen)
        ∙ (h.own ∙ ap (λ (es : List (O × ℕ)). filter is_change (map first_of es))
        (sym (entries_grown is_change publishes caller seen more 0 0 items h.placed.within)))));
  }

  module _ (caller : ℕ) (seen : List O) (items : List (C × ℕ)) (call : C)
      (of : OfCaller is_change publishes caller_of caller)
      (h : InOrder is_change publishes caller_of caller seen items) where
    abbrev found : Option O
    found = publishes seen caller (changes_made is_change publishes caller seen items)
        (others_made is_change publishes caller seen items) call

    abbrev whole : List O
    whole = seen ++ option_to_list found

    seen_is : take (length seen) whole ≡ seen
    seen_is = take_grown (length seen) seen (option_to_list found) (omega arith) ∙ take-length seen

    stands_there : (o : Option O) (op : O) → o ≡ Some op
        → slice_get (seen ++ option_to_list o) (length seen) ≡ Some op
    stands_there None op is = absurd (cc)
    stands_there (Some x) op is = let same : x ≡ op = cc in get_end seen [] x ∙ ap Some same

    called : Called is_change publishes caller seen whole items
        (items ++ (call, length seen) ∷ []) call (length seen)
    called = record {
      before = (option_to_list found, refl);
      item = refl;
      late = omega arith;
      within = omega (arith, length-append seen (option_to_list found));
      stands = λ op is. stands_there found op
          (sym (ap (λ (ops : List O). publishes ops caller
          (changes_made is_change publishes caller seen items)
          (others_made is_change publishes caller seen items) call) seen_is) ∙ is);
    }

    entries_are : entries is_change publishes caller whole (items ++ (call, length seen) ∷ [])
        ≡ entries is_change publishes caller seen items ++ entry_at found (length seen)
    entries_are =
        entries_push is_change publishes caller whole 0 0 items (call, length seen)
        ∙ (rw (
          changes_grown is_change publishes caller seen
              (option_to_list found) 0 0 items h.placed.within,
          others_grown is_change publishes caller seen (option_to_list found) 0 0 items
              h.placed.within,
          seen_is,
          entries_grown is_change publishes caller seen (option_to_list found) 0 0 items
              h.placed.within,
        ) refl)

    own_is : (o : Option O) → ((op : O) → o ≡ Some op → caller_of op ≡ caller)
        → own_changes is_change publishes caller_of caller (option_to_list o)
        ≡ filter is_change (map first_of (entry_at o (length seen)))
    own_is None of_it = refl
    own_is (Some op) of_it =
        let same : (caller_of op == caller) ≡ true =
        (Decides-eqb (caller_of op) caller).1 (of_it op refl) in
        ap (λ (b : Bool). if is_change op && b then op ∷ [] else []) same
        ∙ and_true (is_change op) op

    pub call_in_order : InOrder is_change publishes caller_of caller whole
        (items ++ (call, length seen) ∷ [])
    call_in_order = record {
      placed = placed_called is_change publishes caller seen whole items
          (items ++ (call, length seen) ∷ []) call (length seen) h.placed called;
      own = filter-append (is_own caller) seen (option_to_list found)
          ∙ (ap (λ (ops : List O). ops ++ own_changes is_change publishes caller_of caller
          (option_to_list found)) h.own
          ∙ (ap (λ (ops : List O). filter is_change
          (map first_of (entries is_change publishes caller seen items)) ++ ops)
          (own_is found (λ op is. of seen (changes_made is_change publishes caller seen items)
          (others_made is_change publishes caller seen items) call op is))
          ∙ (sym (filter-append is_change
          (map first_of (entries is_change publishes caller seen items))
          (map first_of (entry_at found (length seen))))
          ∙ ap (filter is_change)
          (sym (map-append first_of (entries is_change publishes caller seen items)
          (entry_at found (length seen))) ∙ ap (map first_of) (sym entries_are)))));
    }

  pub call_keeps_order : CallKeepsOrder is_change publishes caller_of
  call_keeps_order caller seen items call of h = call_in_order caller seen items call of h
