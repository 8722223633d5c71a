-- The places of names among namespaces in order, and what edits there do to the finite map of them.
use Rattle.std.proofs.Common.{◌≡◌, ℕ, ◌+◌, ◌<◌, ◌≤◌, List, [], ◌∷◌, length, get_or, set, map}
use Rattle.std.proofs.Common.{Option, Some, None, Result, Ok, Err, refl, sym, ap, subst, ◌∙◌, arith}
use Rattle.std.proofs.Common.{cond, IfOk, IfErr}
use Rattle.std.specs.Prelude.{T, IsTrue, Bool, true, false, not, slice_get, option_map}
use Rattle.std.specs.declared.cmp.Ordering.TheVariants.{Less, Equal, Greater}
use Rattle.std.specs.Ordering.{nat_cmp, eq_by_cmp}
use Rattle.std.specs.Cmp.Lexicographic.{slice_cmp, nat_list_cmp_total}
use Rattle.std.specs.List.{insert, remove}
use Rattle.std.specs.List.Sorted.{IsSearchInRange, IsBinarySearchResult}
use Rattle.std.specs.FinMap.{IsAntisymmetric, nat_cmp-IsAntisymmetric, slice_cmp-IsAntisymmetric}
use Rattle.std.specs.FinMap.{is_sorted, get, len, from_sorted, entries-from_sorted, get-from_sorted}
use Rattle.std.specs.FinMap.{get-empty, len-entries, same_map}
use Rattle.std.specs.FinMap as fin
use Rattle.std.specs.FinMap.Entries.{where_key}
use Rattle.std.proofs.lemmas.List.{length-map}
use Rattle.std.proofs.lemmas.Option.{slice_get-map, slice_get_read}
use Rattle.ns_store.specs.declared.namespace.Namespace.{Namespace}
use Rattle.ns_store.specs.declared.spaces.Spaces.{Spaces}
use Rattle.ns_store.specs.Contents.{Space}
use Rattle.ns_store.specs.Namespace.{space_of, entry_of}
use Rattle.ns_store.specs.Spaces.{spaces_of, IsPlace, IsGap}
use Rattle.addr_book.proofs.Places.{searchable, find_there, put_there, without_there, find_nowhere}
use Rattle.addr_book.proofs.Places.{put_nowhere, sorted_put, map_put, sorted_without, map_without}
use Rattle.addr_book.proofs.Places.{map_without_none}

pub name_only : IsAntisymmetric (slice_cmp nat_cmp)
name_only = slice_cmp-IsAntisymmetric nat_cmp-IsAntisymmetric

is_true : (b : Bool) → T b → b ≡ true
is_true true h = refl
is_true false h = absurd h

in_order : (spaces : Spaces) → T (is_sorted (slice_cmp nat_cmp) (map entry_of spaces.items.items))
in_order spaces = subst T (sym spaces.sorted) tt

pub entries_spaces : (spaces : Spaces) → fin.entries (spaces_of spaces)
    ≡ map entry_of spaces.items.items
entries_spaces spaces = entries-from_sorted (slice_cmp nat_cmp) (map entry_of spaces.items.items)
    (in_order spaces)

pub len_spaces : (spaces : Spaces) → fin.len (spaces_of spaces) ≡ length spaces.items.items
len_spaces spaces = len-entries (spaces_of spaces)
    ∙ (ap length (entries_spaces spaces) ∙ length-map spaces.items.items entry_of)

-- what a search by halves finds
pub searched : (spaces : Spaces) (name : List ℕ) (r : Result ℕ ℕ)
    → IsSearchInRange r (length spaces.items.items)
    → IsBinarySearchResult (λ s. slice_cmp nat_cmp s.name name) spaces.items.items r
    → IfOk r (IsPlace spaces name) × IfErr r (IsGap spaces name)
searched spaces name (Ok at) within here = (record { within = within; here = here }, tt)
searched spaces name (Err at) within parted =
    let parts = parted (searchable nat_list_cmp_total entry_of spaces.items.items name
    (in_order spaces)) in (
      tt,
      record {
        within = within;
        before = λ k d lt. parts.0 k d (omega arith) lt;
        behind =
            λ k d le lt. parts.1 k d le lt;
      },
    )

-- ---- the name is at a place
module _ (spaces : Spaces) (name : List ℕ) (at : ℕ) (place : IsPlace spaces name at) where
  pub get_place : (read : Namespace) → read ≡ get_or spaces.items.items at read
      → Some (space_of read) ≡ fin.get (spaces_of spaces) name
  get_place read is =
      ap (λ s. Some (space_of s)) is
      ∙ sym (get-from_sorted (slice_cmp nat_cmp) (map entry_of spaces.items.items) name
      (in_order spaces)
      ∙ find_there nat_list_cmp_total entry_of spaces.items.items name at read
      (in_order spaces) place.within (place.here read))

  put_place : (new : Namespace) → new.name ≡ name → map entry_of (set spaces.items.items at new)
      ≡ fin.put (slice_cmp nat_cmp) name (space_of new) (map entry_of spaces.items.items)
  put_place new is = put_there nat_list_cmp_total entry_of name_only spaces.items.items name
      (space_of new) at new new (in_order spaces) place.within (place.here new)
      (λ i. (is i, space_of new))

  pub sorted_place : (new : Namespace) → new.name ≡ name
      → IsTrue (is_sorted (slice_cmp nat_cmp) (map entry_of (set spaces.items.items at new)))
  sorted_place new is =
      is_true _ (sorted_put nat_list_cmp_total name_only (map entry_of spaces.items.items) _ name
      (space_of new) (in_order spaces) (put_place new is))

  pub map_place : (new : Namespace) → new.name ≡ name
      → from_sorted (map entry_of (set spaces.items.items at new))
      ≡ fin.insert (spaces_of spaces) name (space_of new)
  map_place new is = map_put nat_list_cmp_total name_only (map entry_of spaces.items.items) _ name
      (space_of new) (in_order spaces) (put_place new is)

  gone_place : (d : Namespace) → map entry_of (remove spaces.items.items at)
      ≡ where_key (slice_cmp nat_cmp) (λ q. not (eq_by_cmp (slice_cmp nat_cmp) name q))
      (map entry_of spaces.items.items)
  gone_place d = without_there nat_list_cmp_total entry_of spaces.items.items name at d
      (in_order spaces) place.within (place.here d)

  pub sorted_gone : (d : Namespace) → IsTrue
      (is_sorted (slice_cmp nat_cmp) (map entry_of (remove spaces.items.items at)))
  sorted_gone d = is_true _
      (sorted_without nat_list_cmp_total name_only (map entry_of spaces.items.items) _
      (λ q. not (eq_by_cmp (slice_cmp nat_cmp) name q)) (in_order spaces) (gone_place d))

  pub map_gone : (d : Namespace) → from_sorted (map entry_of (remove spaces.items.items at))
      ≡ fin.remove (spaces_of spaces) name
  map_gone d = map_without nat_list_cmp_total name_only (map entry_of spaces.items.items) _ name
      (in_order spaces) (gone_place d)

-- ---- the name is at none, and would go to a place
module _ (spaces : Spaces) (name : List ℕ) (at : ℕ) (gap : IsGap spaces name at) where
  pub get_gap : fin.get (spaces_of spaces) name ≡ None
  get_gap =
      get-from_sorted (slice_cmp nat_cmp) (map entry_of spaces.items.items) name (in_order spaces)
      ∙ find_nowhere nat_list_cmp_total entry_of spaces.items.items name at gap.before gap.behind

  put_gap : (new : Namespace) → new.name ≡ name → map entry_of (insert spaces.items.items at new)
      ≡ fin.put (slice_cmp nat_cmp) name (space_of new) (map entry_of spaces.items.items)
  put_gap new is = put_nowhere nat_list_cmp_total entry_of spaces.items.items name
      (space_of new) at new gap.within gap.before gap.behind (λ i. (is i, space_of new))

  pub sorted_gap : (new : Namespace) → new.name ≡ name
      → IsTrue (is_sorted (slice_cmp nat_cmp) (map entry_of (insert spaces.items.items at new)))
  sorted_gap new is = is_true _
      (sorted_put nat_list_cmp_total name_only (map entry_of spaces.items.items) _ name
      (space_of new) (in_order spaces) (put_gap new is))

  pub map_gap : (new : Namespace) → new.name ≡ name
      → from_sorted (map entry_of (insert spaces.items.items at new))
      ≡ fin.insert (spaces_of spaces) name (space_of new)
  map_gap new is = map_put nat_list_cmp_total name_only (map entry_of spaces.items.items) _ name
      (space_of new) (in_order spaces) (put_gap new is)

  -- also where there was no memory for it
  pub sorted_either : (taken : Bool) (items : List Namespace) (new : Namespace) → new.name ≡ name
      → items ≡ cond taken (insert spaces.items.items at new) spaces.items.items
      → IsTrue (is_sorted (slice_cmp nat_cmp) (map entry_of items))
  sorted_either true items new is e =
      subst (λ xs. IsTrue (is_sorted (slice_cmp nat_cmp) (map entry_of xs))) (sym e)
      (sorted_gap new is)
  sorted_either false items new is e =
      subst (λ xs. IsTrue (is_sorted (slice_cmp nat_cmp) (map entry_of xs))) (sym e) spaces.sorted

  pub map_gone_gap : spaces_of spaces ≡ fin.remove (spaces_of spaces) name
  map_gone_gap = map_without_none nat_list_cmp_total name_only (spaces_of spaces) name get_gap

name_of_entry : (items : List Namespace) → map (λ e. e.0) (map entry_of items)
    ≡ map (λ s. s.name) items
name_of_entry [] = refl
name_of_entry (s ∷ items) = ap (λ names. s.name ∷ names) (name_of_entry items)

-- the name at a place in their order
pub name_at : (spaces : Spaces) (at : ℕ) (read : Namespace) → at < fin.len (spaces_of spaces)
    → read ≡ get_or spaces.items.items at read → slice_get (fin.keys (spaces_of spaces)) at
    ≡ Some read.name
name_at spaces at read lt is =
    let names : List (List ℕ) = map (λ (s : Namespace). s.name) spaces.items.items in
    ap (λ es. slice_get (map (λ (e : List ℕ × Space). e.0) es) at) (entries_spaces spaces)
    ∙ (ap (λ ns. slice_get ns at) (name_of_entry spaces.items.items)
    ∙ (slice_get-map (λ (s : Namespace). s.name) spaces.items.items at
    ∙ ap (option_map (λ (s : Namespace). s.name))
    (slice_get_read spaces.items.items (length spaces.items.items) at read refl
    (grind (arith, len_spaces spaces, lt)) is)))

pub none_spaces : (items : List Namespace) → items ≡ []
    → from_sorted {R = slice_cmp nat_cmp} (map entry_of items) ≡ fin.empty
none_spaces items is =
    ap (λ xs. from_sorted (map entry_of xs)) is
    ∙ same_map nat_list_cmp_total name_only _ _
    (λ q. get-from_sorted (slice_cmp nat_cmp) [] q tt ∙ sym (get-empty (slice_cmp nat_cmp) q))

-- a search that found no place leaves nothing to remove
pub absent : (spaces : Spaces) (name : List ℕ) (r : Result ℕ ℕ) → ((at : ℕ) → r ≡ Ok at → ⊥)
    → IfErr r (IsGap spaces name) → spaces_of spaces ≡ fin.remove (spaces_of spaces) name
absent spaces name (Ok at) none gap = absurd (none at refl)
absent spaces name (Err at) none gap = map_gone_gap spaces name at gap
