-- Places in lists in the order of their keys, and what edits there do to the finite maps that they
-- stand for.
use Rattle.std.proofs.Common.{◌≡◌, ℕ, List, [], length, get_or, set, map, Bool, true, false, Some}
use Rattle.std.proofs.Common.{None, Result, Ok, Err, refl, sym, ap, subst, ◌∙◌, arith, IfOk, IfErr}
use Rattle.std.proofs.Common.{not}
use Rattle.std.specs.Prelude.{T, is_some}
use Rattle.std.specs.declared.cmp.Ordering.{Ordering}
use Rattle.std.specs.Ordering.{eq_by_cmp}
use Rattle.std.specs.Cmp.{IsTotalOrder}
use Rattle.std.specs.List.{insert, remove}
use Rattle.std.specs.List.Sorted.{IsSearchInRange, IsBinarySearchResult}
use Rattle.std.specs.FinMap.{IsAntisymmetric, is_sorted, get, contains_key, get-from_sorted}
use Rattle.std.specs.FinMap.{get-empty, same_map}
use Rattle.std.specs.FinMap as fin
use Rattle.std.specs.FinMap.Entries.{where_key}
use Rattle.addr_book.specs.Sorted.{map_of, IsInOrder, IsPlace, IsGap}
use Rattle.addr_book.proofs.Places.{searchable, find_there, put_there, without_there, find_nowhere}
use Rattle.addr_book.proofs.Places.{put_nowhere, sorted_put, map_put, sorted_without, map_without}
use Rattle.addr_book.proofs.Places.{map_without_none}

is_true : (b : Bool) → T b → b ≡ true
is_true true h = refl
is_true false h = absurd h

module _ {A K X : Type 0} {R : K → K → Ordering} (o : IsTotalOrder R) (only : IsAntisymmetric R)
    (entry : A → K × X) where
  test : (items : List A) → IsInOrder R entry items → T (is_sorted R (map entry items))
  test items h = subst T (sym h) tt

  pub map_of_none : map_of {R = R} entry [] ≡ fin.empty
  map_of_none = same_map o only _ _ (λ q. get-from_sorted R [] q tt ∙ sym (get-empty R q))

  -- what a search by halves finds
  pub searched : (items : List A) → IsInOrder R entry items → (key : K) (r : Result ℕ ℕ)
      → IsSearchInRange r (length items) → IsBinarySearchResult (λ a. R (entry a).0 key) items r
      → IfOk r (IsPlace R entry items key) × IfErr r (IsGap R entry items key)
  searched items h key (Ok at) within here = (record { within = within; here = here }, tt)
  searched items h key (Err at) within parted =
      let parts = parted (searchable o entry items key (test items h)) in (
        tt,
        record {
          within = within;
          before = λ k d lt. parts.0 k d (omega arith) lt;
          behind =
              λ k d le lt. parts.1 k d le lt;
        },
      )

  -- ---- the key is at a place
  module _ (items : List A) (h : IsInOrder R entry items) (key : K) (at : ℕ)
      (place : IsPlace R entry items key at) where
    pub get_place : (read : A) → read ≡ get_or items at read
        → get (map_of {R = R} entry items) key ≡ Some (entry read).1
    get_place read is =
        get-from_sorted R (map entry items) key (test items h)
        ∙ (find_there o entry items key at read (test items h) place.within (place.here read)
        ∙ ap (λ (a : A). Some (entry a).1) (sym is))

    pub there_place : (d : A) → true ≡ contains_key (map_of {R = R} entry items) key
    there_place d = sym (ap is_some (get-from_sorted R (map entry items) key (test items h)
        ∙ find_there o entry items key at d (test items h) place.within (place.here d)))

    pub key_place : (read : A) → read ≡ get_or items at read → (entry read).0 ≡ key
    key_place read is = ap (λ (a : A). (entry a).0) is ∙ only _ _ (place.here read)

    put_place : (new : A) (value : X) → entry new ≡ (key, value)
        → map entry (set items at new) ≡ fin.put R key value (map entry items)
    put_place new value is = put_there o entry only items key value at new new
        (test items h) place.within (place.here new) is

    pub sorted_place : (new : A) (value : X) → entry new ≡ (key, value)
        → IsInOrder R entry (set items at new)
    sorted_place new value is = is_true _
        (sorted_put o only (map entry items) _ key value (test items h) (put_place new value is))

    pub map_place : (new : A) (value : X) → entry new ≡ (key, value)
        → map_of {R = R} entry (set items at new) ≡ fin.insert (map_of entry items) key value
    map_place new value is = map_put o only (map entry items) _ key value (test items h)
        (put_place new value is)

    gone_place : (d : A) → map entry (remove items at)
        ≡ where_key R (λ q. not (eq_by_cmp R key q)) (map entry items)
    gone_place d = without_there o entry items key at d (test items h) place.within (place.here d)

    pub sorted_gone : (d : A) → IsInOrder R entry (remove items at)
    sorted_gone d = is_true _
        (sorted_without o only (map entry items) _ (λ q. not (eq_by_cmp R key q)) (test items h)
        (gone_place d))

    pub map_gone : (d : A) → map_of {R = R} entry (remove items at)
        ≡ fin.remove (map_of entry items) key
    map_gone d = map_without o only (map entry items) _ key (test items h) (gone_place d)

  -- ---- the key is at none, and would go to a place
  module _ (items : List A) (h : IsInOrder R entry items) (key : K) (at : ℕ)
      (gap : IsGap R entry items key at) where
    pub get_gap : get (map_of {R = R} entry items) key ≡ None
    get_gap = get-from_sorted R (map entry items) key (test items h)
        ∙ find_nowhere o entry items key at gap.before gap.behind

    pub there_gap : false ≡ contains_key (map_of {R = R} entry items) key
    there_gap = sym (ap is_some get_gap)

    put_gap : (new : A) (value : X) → entry new ≡ (key, value)
        → map entry (insert items at new) ≡ fin.put R key value (map entry items)
    put_gap new value is = put_nowhere o entry items key value at new gap.within gap.before
        gap.behind is

    pub sorted_gap : (new : A) (value : X) → entry new ≡ (key, value)
        → IsInOrder R entry (insert items at new)
    sorted_gap new value is = is_true _
        (sorted_put o only (map entry items) _ key value (test items h) (put_gap new value is))

    pub map_gap : (new : A) (value : X) → entry new ≡ (key, value)
        → map_of {R = R} entry (insert items at new) ≡ fin.insert (map_of entry items) key value
    map_gap new value is = map_put o only (map entry items) _ key value (test items h)
        (put_gap new value is)

    pub map_gone_gap : map_of {R = R} entry items ≡ fin.remove (map_of entry items) key
    map_gone_gap = map_without_none o only (map_of entry items) key get_gap
