-- The names of a store, one by one.
use Rattle.std.proofs.Common.{◌≡◌, ℕ, ◌+◌, ◌≤◌, List, ◌∷◌, [], ◌++◌, length, take, Some, sym, ap}
use Rattle.std.proofs.Common.{◌∙◌, arith}
use Rattle.std.specs.Prelude.{slice_get}
use Rattle.std.specs.declared.cmp.Ordering.{Ordering}
use Rattle.std.specs.FinMap.{FinMap, keys, len, entries, len-entries}
use Rattle.std.proofs.lemmas.List.{take_more, take_all, length-map}
use Rattle.std.proofs.lemmas.Option.{slice_get_within, get_or_from_slice_get}

pub one_more : {X : Type 0} (names all : List X) (at : ℕ) (name : X) → names ≡ take at all
    → slice_get all at ≡ Some name → names ++ name ∷ [] ≡ take (at + 1) all
one_more names all at name so_far is =
    ap (λ (xs : List _). xs ++ name ∷ []) so_far
    ∙ (ap (λ x. take at all ++ x ∷ []) (sym (get_or_from_slice_get all at name name is))
    ∙ sym (take_more all at name (slice_get_within all at name is)))

length-keys : {K X : Type 0} {R : K → K → Ordering} (m : FinMap R X) → length (keys m) ≡ len m
length-keys m = length-map (entries m) (λ e. e.0) ∙ sym (len-entries m)

pub all_listed : {K X : Type 0} {R : K → K → Ordering} (m : FinMap R X) (names : List K)
    (count at : ℕ) → count ≡ len m → count ≤ at → names ≡ take at (keys m) → names ≡ keys m
all_listed m names count at is past so_far = so_far
    ∙ take_all at (keys m) (omega (arith, length-keys m, is, past))
