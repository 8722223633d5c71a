-- Names that were sorted, each once.
use Rattle.std.proofs.Common.{◌≡◌, ℕ, zero, suc, List, [], ◌∷◌, map, Contains, refl, sym, ap, ◌∙◌}
use Rattle.std.proofs.Common.{subst, arith}
use Rattle.std.proofs.lemmas.List.Filters.{dedup_is}
use Rattle.std.proofs.lemmas.List.Kept.{Any-dedup, Contains-from_dedup, IsStrictlySortedBy-dedup}
use Rattle.std.proofs.lemmas.List.Sorted.{Contains-permutation}
use Rattle.std.proofs.lemmas.Slice.Eq.{bytes_eq-Decides}
use Rattle.std.specs.Cmp.Lexicographic.{slice_cmp, texts_ties}
use Rattle.std.specs.List.{AllByRecursion, dedup}
use Rattle.std.specs.List.Retain.{IsFiltered, DiffersFromLast}
use Rattle.std.specs.List.Sorted.{IsPermutation, IsSorted, IsStrictlySortedBy}
use Rattle.std.specs.Ordering.{nat_cmp}
use Rattle.std.specs.declared.cmp.Ordering.TheVariants.{Less}
use Rattle.std.specs.Prelude.{String}
use Rattle.std.specs.String.{string_bytes, string_cmp, string_cmp_total, string_eq, string_eq_equiv}
use Rattle.line_base.specs.Files.{File, AreNames, names_in}

-- the image of a member is a member of the images
in_images : {X Y : Type 0} (f : X → Y) (xs : List X) (x : X) → Contains xs x
    → Contains (map f xs) (f x)
in_images f [] x (k, lt, is) = absurd (omega (arith, lt))
in_images f (z ∷ zs) x (zero, lt, is) = (0, omega arith, ap f is)
in_images f (z ∷ zs) x (suc k, lt, is) = let r = in_images f zs x (k, omega (arith, lt), is) in
    (suc r.0, omega (arith, r.1), r.2)

-- a member of the images is the image of a member
of_image : {X Y : Type 0} (f : X → Y) (xs : List X) (y : Y) → Contains (map f xs) y
    → (x : X) × Contains xs x × (f x ≡ y)
of_image f [] y (k, lt, is) = absurd (omega (arith, lt))
of_image f (z ∷ zs) y (zero, lt, is) = (z, (0, omega arith, refl), is)
of_image f (z ∷ zs) y (suc k, lt, is) = let r = of_image f zs y (k, omega (arith, lt), is) in
    (r.0, (suc r.1.0, omega (arith, r.1.1), r.1.2), r.2)

module _ {Z : Type 0} where
  bytes_behind : (n : String Z) (ns : List (String Z))
      → AllByRecursion (λ (m : String Z). string_cmp n m ≡ Less) ns
      → AllByRecursion (λ (b : List ℕ). slice_cmp nat_cmp (string_bytes n) b ≡ Less)
      (map (λ (m : String Z). string_bytes m) ns)
  bytes_behind n [] all = tt
  bytes_behind n (m ∷ ms) all = (all.0, bytes_behind n ms all.1)

  -- texts in order have their bytes in order
  bytes_sorted : (ns : List (String Z)) → IsStrictlySortedBy string_cmp ns
      → IsStrictlySortedBy (slice_cmp nat_cmp) (map (λ (n : String Z). string_bytes n) ns)
  unfolding IsStrictlySortedBy
  bytes_sorted [] sorted = tt
  bytes_sorted (n ∷ ns) sorted = (bytes_behind n ns sorted.0, bytes_sorted ns sorted.1)

  -- names that were sorted, and then kept once each, are the same names in order
  pub are_names : (files : List File) (folder : List ℕ) (found sorted kept : List (String Z))
      → map (λ (n : String Z). string_bytes n) found ≡ names_in files folder
      → IsPermutation found sorted → IsPermutation sorted found → IsSorted string_cmp sorted
      → IsFiltered (DiffersFromLast string_eq) [] sorted kept
      → AreNames files folder (map (λ (n : String Z). string_bytes n) kept)
  are_names files folder found sorted kept named moved back order filtered =
      let same : kept ≡ dedup string_eq sorted = dedup_is string_eq sorted kept filtered in record {
        ordered = rw same (bytes_sorted (dedup string_eq sorted)
            (IsStrictlySortedBy-dedup string_cmp_total
            (λ x y. texts_ties (string_bytes x) (string_bytes y)) sorted order));
        there = λ name is.
            let n = of_image (λ (m : String Z). string_bytes m) kept name is in
            let old : Contains sorted n.0 = Contains-from_dedup string_eq sorted n.0
            (subst (λ (ns : List (String Z)). Contains ns n.0) same n.1) in
            subst (Contains (names_in files folder)) n.2
            (subst (λ (xs : List (List ℕ)). Contains xs (string_bytes n.0)) named
            (in_images (λ (m : String Z). string_bytes m) found n.0
            (Contains-permutation sorted found n.0 back old)));
        all = λ name is.
            let n = of_image (λ (m : String Z). string_bytes m) found name
            (subst (λ (xs : List (List ℕ)). Contains xs name) (sym named) is) in
            let k = Any-dedup string_eq_equiv sorted n.0
            (Contains-permutation found sorted n.0 moved n.1) in
            let text : string_bytes n.0 ≡ string_bytes k.1 =
            (bytes_eq-Decides (string_bytes n.0) (string_bytes k.1)).0 k.4 in
            subst (Contains (map (λ (m : String Z). string_bytes m) kept)) (sym text ∙ n.2)
            (in_images (λ (m : String Z). string_bytes m) kept k.1
            (subst (λ (ns : List (String Z)). Contains ns k.1) (sym same) (k.0, k.2, k.3)));
      }
