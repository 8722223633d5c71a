-- What a search by halves finds among the lowered names.
use Rattle.std.proofs.Common.{◌≡◌, ℕ, ◌<◌, ◌≤◌, Bool, true, false, List, [], ◌∷◌, ◌&&◌, ◌||◌, not}
use Rattle.std.proofs.Common.{length, map, filter, get_or, ltb, eqb, cond, refl, sym, ap, ◌∙◌}
use Rattle.std.proofs.Common.{arith, Result, Ok, Err, is_ok, bytes_eq, IsPermutation, IsSorted}
use Rattle.std.specs.List.{list_any}
use Rattle.std.specs.List.Sorted.{IsSearchInRange, IsBinarySearchResult}
use Rattle.std.specs.Ordering.{nat_cmp, is_eq}
use Rattle.std.specs.Cmp.Lexicographic.{slice_cmp, nat_list_cmp_total}
use Rattle.std.specs.declared.vec.Vec.{Vec}
use Rattle.std.specs.declared.alloc.Global.{Global}
use Rattle.std.proofs.lemmas.Bool.Decides.{nat_tests}
use Rattle.std.proofs.lemmas.Cmp.{same_from_slice_cmp}
use Rattle.std.proofs.lemmas.List.Folds.{list_any_at, list_any_none}
use Rattle.std.proofs.lemmas.List.Sorted.{list_any-IsPermutation, searchable_from_sorted}
use Rattle.std.proofs.lemmas.Slice.Eq.{bytes_eq-Decides}
use Rattle.http_wire.specs.declared.head.Field.{Field}
use Rattle.http_wire.specs.Fields.{lower, same_ignoring_case}
use Rattle.forward.specs.declared.listed.Listed.{Listed}
use Rattle.forward.specs.Listed.{is_among_lowered, lowered, text_order, StandFor}
use Rattle.forward.specs.Dropped.{has_name_of, named_in_connection}
use Rattle.forward.specs.Kept.{is_left}
use Rattle.forward.proofs.Named.{list_any-map}

-- texts that tie are the same
ties : (xs ys : List ℕ) → is_eq (slice_cmp nat_cmp xs ys) ≡ bytes_eq xs ys
ties xs ys =
    same_from_slice_cmp nat_cmp is_eq bytes_eq refl (λ _ _. refl) (λ _ _. refl)
    (λ x y us vs o h. grind (arith, nat_tests)) xs ys (slice_cmp nat_cmp xs ys) refl

pub found : (names : List (Vec ℕ Global)) (key : Vec ℕ Global) (r : Result ℕ ℕ)
    → IsSorted text_order names → IsSearchInRange r (length names)
    → IsBinarySearchResult (λ y. text_order y key) names r
    → is_ok r ≡ list_any (λ n. bytes_eq n.items key.items) names
found names key (Ok at) sorted within equal =
    let same : bytes_eq (get_or names at key).items key.items ≡ true =
    sym (ties (get_or names at key).items key.items) ∙ ap is_eq (equal key) in
    sym (list_any_at (λ (n : Vec ℕ Global). bytes_eq n.items key.items) names at key within same)
found names key (Err at) sorted within parted =
    sym (list_any_none (λ (n : Vec ℕ Global). bytes_eq n.items key.items) names
    (λ k d less. by_side k d less (ltb k at) refl))
  where
    by_side : (k : ℕ) (d : Vec ℕ Global) → k < length names → (t : Bool) → ltb k at ≡ t
        → bytes_eq (get_or names k d).items key.items ≡ false
    by_side k d less true test =
        let before : k < at = grind (arith, nat_tests, test) in
        sym (ties (get_or names k d).items key.items)
        ∙ ap is_eq
        ((parted (searchable_from_sorted nat_list_cmp_total
        (λ (n : Vec ℕ Global). n.items) names key.items sorted)).0 k d (omega arith) before)
    by_side k d less false test =
        let behind : at ≤ k = grind (arith, nat_tests, test) in
        sym (ties (get_or names k d).items key.items)
        ∙ ap is_eq
        ((parted (searchable_from_sorted nat_list_cmp_total
        (λ (n : Vec ℕ Global). n.items) names key.items sorted)).1 k d behind less)

-- nothing is among no names
pub nothing_among : (xs names : List (Vec ℕ Global)) (name : List ℕ) → xs ≡ names
    → eqb (length xs) 0 ≡ true → false ≡ is_among_lowered names name
nothing_among [] names name same empty =
    ap (λ (ns : List (Vec ℕ Global)). is_among_lowered ns name) same
nothing_among (x ∷ xs) names name same empty = let none : length (x ∷ xs) ≡ 0 =
    grind (arith, nat_tests, empty) in absurd (omega (arith, none))

-- equality of texts has two sides
turned : (xs ys : List ℕ) → bytes_eq xs ys ≡ bytes_eq ys xs
turned xs ys = by_tests (bytes_eq xs ys) (bytes_eq ys xs) refl refl
  where
    by_tests : (s t : Bool) → bytes_eq xs ys ≡ s → bytes_eq ys xs ≡ t → s ≡ t
    by_tests true true a b = refl
    by_tests false false a b = refl
    by_tests true false a b = let yes =
        (bytes_eq-Decides ys xs).1 (sym ((bytes_eq-Decides xs ys).0 a)) in cc
    by_tests false true a b = let yes =
        (bytes_eq-Decides xs ys).1 (sym ((bytes_eq-Decides ys xs).0 b)) in cc

-- a name is among the lowered names where it is among the names
among : (name : List ℕ) (pieces : List (List ℕ))
    → list_any (λ (t : List ℕ). bytes_eq t (lower name)) (lowered pieces)
    ≡ list_any (same_ignoring_case name) pieces
unfolding same_ignoring_case
among name [] = refl
among name (piece ∷ pieces) = (λ k. turned (lower piece) (lower name) k || among name pieces k)

pub stand_for : (before sorted : List (Vec ℕ Global)) (pieces : List (List ℕ))
    → IsPermutation before sorted
    → map (λ (n : Vec ℕ Global). n.items) before ≡ lowered pieces → StandFor sorted pieces
stand_for before sorted pieces moved same name =
    sym (list_any-IsPermutation (λ (n : Vec ℕ Global). bytes_eq n.items (lower name)) before sorted
    moved)
    ∙ list_any-map (λ (t : List ℕ). bytes_eq t (lower name)) (λ (n : Vec ℕ Global). n.items) before
    ∙ ap (list_any (λ (t : List ℕ). bytes_eq t (lower name))) same
    ∙ among name pieces

-- where the lowered names stand for those that are listed, what they leave is what goes on
pub left_is_kept : (never : List (List ℕ)) (listed : Listed) (fields all : List Field)
    → StandFor listed.names.items (named_in_connection all)
    → filter (is_left never listed) fields
    ≡ filter (λ (f : Field). not (has_name_of never f)
    && not (has_name_of (named_in_connection all) f)) fields
left_is_kept never listed [] all stands = refl
left_is_kept never listed (f ∷ fs) all stands =
    let test : is_left never listed f
    ≡ (not (has_name_of never f) && not (has_name_of (named_in_connection all) f)) =
    ap (λ (b : Bool). not (has_name_of never f) && not b) (stands f.name) in
    (λ k. cond (test k) (f ∷ left_is_kept never listed fs all stands k)
    (left_is_kept never listed fs all stands k))
