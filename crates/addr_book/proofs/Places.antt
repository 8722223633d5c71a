-- A list in the strict order of its keys, searched by halves, and what an edit at the place that
-- was found does to the map that it stands for.
use Rattle.std.proofs.Common.{◌≡◌, ℕ, zero, suc, ◌+◌, ◌<◌, ◌≤◌, Bool, true, false, cond, List, []}
use Rattle.std.proofs.Common.{◌∷◌, length, get_or, set, map, Option, Some, None, refl, sym, ap}
use Rattle.std.proofs.Common.{subst, ◌∙◌, arith}
use Rattle.std.specs.Prelude.{T, not, ◌&&◌}
use Rattle.std.specs.declared.cmp.Ordering.{Ordering}
use Rattle.std.specs.declared.cmp.Ordering.TheVariants.{Less, Equal, Greater}
use Rattle.std.specs.Ordering.{is_lt, is_eq, eq_by_cmp, ordering_reverse, ordering_index}
use Rattle.std.specs.Cmp.{IsTotalOrder, alike_right}
use Rattle.std.specs.List.{insert, remove}
use Rattle.std.specs.List.Sorted.{IsNonDecreasingBy}
use Rattle.std.specs.FinMap.{FinMap, IsAntisymmetric, find, put, is_sorted, get, from_sorted}
use Rattle.std.specs.FinMap.{entries-from_sorted, entries-insert, get-from_sorted, get-remove}
use Rattle.std.specs.FinMap.{get_tied, get-entries, same_map}
use Rattle.std.specs.FinMap as fin
use Rattle.std.specs.FinMap.Entries.{by_order, below_all, where_key, is_sorted-put}
use Rattle.std.specs.FinMap.Entries.{is_sorted-where_key, find-where_key}
use Rattle.std.proofs.lemmas.List.Sorted.{searchable_from_sorted}

first : (a b : Bool) → T (a && b) → T a
first true b h = tt
first false b h = h

second : (a b : Bool) → T (a && b) → T b
second true b h = h
second false b h = absurd h

less : (r : Ordering) → T (is_lt r) → r ≡ Less
less Less h = refl
less Equal h = absurd h
less Greater h = absurd h

module _ {A K X : Type 0} {R : K → K → Ordering} (o : IsTotalOrder R) (entry : A → K × X) where
  abbrev pub shown : List A → List (K × X)
  shown xs = map entry xs

  turned : (x y : K) (a : Ordering) → R x y ≡ a → R y x ≡ ordering_reverse a
  turned x y a is = o.antisymm y x ∙ ap ordering_reverse is

  below_at : (k : K) (xs : List A) (j : ℕ) (d : A) → T (below_all R k (shown xs)) → j < length xs
      → R k (entry (get_or xs j d)).0 ≡ Less
  below_at k [] j d h lt = absurd (omega arith)
  below_at k (x ∷ xs) zero d h lt = less _ (first _ _ h)
  below_at k (x ∷ xs) (suc j) d h lt = below_at k xs j d (second _ _ h) (omega arith)

  -- keys rise along the list
  pub rises : (xs : List A) (i j : ℕ) (d : A) → T (is_sorted R (shown xs)) → i < j → j < length xs
      → R (entry (get_or xs i d)).0 (entry (get_or xs j d)).0 ≡ Less
  rises [] i j d h below lt = absurd (omega arith)
  rises (x ∷ xs) i zero d h below lt = absurd (omega arith)
  rises (x ∷ xs) zero (suc j) d h below lt = below_at (entry x).0 xs j d (first _ _ h) (omega arith)
  rises (x ∷ xs) (suc i) (suc j) d h below lt =
      rises xs i j d (second _ _ h) (omega arith) (omega arith)

  -- so they may be searched by halves
  pub searchable : (xs : List A) (k : K) → T (is_sorted R (shown xs))
      → IsNonDecreasingBy (λ a. ordering_index (R (entry a).0 k)) xs
  searchable xs k h = searchable_from_sorted o (λ a. (entry a).0) xs k
      (λ j d _ lt. ap is_lt (turned _ _ _ (rises xs j (j + 1) d h (omega arith) lt)))

  -- a key that ties with that of a later place comes behind the first key
  behind_first : (x : A) (xs : List A) (k : K) (at : ℕ) (d : A) → T (is_sorted R (shown (x ∷ xs)))
      → at < length xs → R (entry (get_or xs at d)).0 k ≡ Equal → R k (entry x).0 ≡ Greater
  behind_first x xs k at d h lt e = turned _ _ Less
      (sym (alike_right o _ k (entry x).0 e) ∙ below_at (entry x).0 xs at d (first _ _ h) lt)

  -- ---- the key is at a place
  pub find_there : (xs : List A) (k : K) (at : ℕ) (d : A) → T (is_sorted R (shown xs))
      → at < length xs → R (entry (get_or xs at d)).0 k ≡ Equal
      → find R k (shown xs) ≡ Some (entry (get_or xs at d)).1
  find_there [] k at d h lt e = absurd (omega arith)
  find_there (x ∷ xs) k zero d h lt e =
      ap (λ r. cond (is_eq r) (Some (entry x).1) (find R k (shown xs))) (turned _ _ Equal e)
  find_there (x ∷ xs) k (suc at) d h lt e =
      ap (λ r. cond (is_eq r) (Some (entry x).1) (find R k (shown xs)))
      (behind_first x xs k at d h (omega arith) e)
      ∙ find_there xs k at d (second _ _ h) (omega arith) e

  pub put_there : IsAntisymmetric R → (xs : List A) (k : K) (v : X) (at : ℕ) (d new : A)
      → T (is_sorted R (shown xs)) → at < length xs → R (entry (get_or xs at d)).0 k ≡ Equal
      → entry new ≡ (k, v)
      → shown (set xs at new) ≡ put R k v (shown xs)
  put_there only [] k v at d new h lt e is = absurd (omega arith)
  put_there only (x ∷ xs) k v zero d new h lt e is =
      let key = only _ _ e in
      (λ i. is i ∷ shown xs)
      ∙ ((λ i. (sym key i, v) ∷ shown xs)
      ∙ sym (ap (λ r. by_order r ((k, v) ∷ entry x ∷ shown xs) (((entry x).0, v) ∷ shown xs)
      (entry x ∷ put R k v (shown xs))) (turned _ _ Equal e)))
  put_there only (x ∷ xs) k v (suc at) d new h lt e is =
      ap (λ (es : List (K × X)). entry x ∷ es)
      (put_there only xs k v at d new (second _ _ h) (omega arith) e is)
      ∙ sym (ap (λ r. by_order r ((k, v) ∷ entry x ∷ shown xs) (((entry x).0, v) ∷ shown xs)
      (entry x ∷ put R k v (shown xs))) (behind_first x xs k at d h (omega arith) e))

  -- the keys behind one that ties with k stay
  kept_behind : (xs : List A) (y k : K) → T (below_all R y (shown xs)) → R y k ≡ Equal
      → where_key R (λ q. not (eq_by_cmp R k q)) (shown xs) ≡ shown xs
  kept_behind [] y k h e = refl
  kept_behind (x ∷ xs) y k h e =
      ap (λ r. cond (not (is_eq r)) (entry x ∷ where_key R (λ q. not (eq_by_cmp R k q)) (shown xs))
      (where_key R (λ q. not (eq_by_cmp R k q)) (shown xs)))
      (sym (o.congr y k (entry x).0 e) ∙ less _ (first _ _ h))
      ∙ ap (λ (es : List (K × X)). entry x ∷ es) (kept_behind xs y k (second _ _ h) e)

  pub without_there : (xs : List A) (k : K) (at : ℕ) (d : A) → T (is_sorted R (shown xs))
      → at < length xs → R (entry (get_or xs at d)).0 k ≡ Equal
      → shown (remove xs at) ≡ where_key R (λ q. not (eq_by_cmp R k q)) (shown xs)
  without_there [] k at d h lt e = absurd (omega arith)
  without_there (x ∷ xs) k zero d h lt e =
      sym
      (ap (λ r. cond (not (is_eq r))
      (entry x ∷ where_key R (λ q. not (eq_by_cmp R k q)) (shown xs))
      (where_key R (λ q. not (eq_by_cmp R k q)) (shown xs))) (turned _ _ Equal e)
      ∙ kept_behind xs (entry x).0 k (first _ _ h) e)
  without_there (x ∷ xs) k (suc at) d h lt e =
      ap (λ (es : List (K × X)). entry x ∷ es)
      (without_there xs k at d (second _ _ h) (omega arith) e)
      ∙ sym (ap (λ r. cond (not (is_eq r))
      (entry x ∷ where_key R (λ q. not (eq_by_cmp R k q)) (shown xs))
      (where_key R (λ q. not (eq_by_cmp R k q)) (shown xs)))
      (behind_first x xs k at d h (omega arith) e))

  -- ---- the key is nowhere, and would go to a place
  pub find_nowhere : (xs : List A) (k : K) (at : ℕ)
      → ((j : ℕ) (d : A) → j < at → R (entry (get_or xs j d)).0 k ≡ Less)
      → ((j : ℕ) (d : A) → at ≤ j → j < length xs → R (entry (get_or xs j d)).0 k ≡ Greater)
      → find R k (shown xs) ≡ None
  find_nowhere [] k at before behind = refl
  find_nowhere (x ∷ xs) k zero before behind =
      ap (λ r. cond (is_eq r) (Some (entry x).1) (find R k (shown xs)))
      (turned _ _ Greater (behind 0 x (omega arith) (omega arith)))
      ∙ find_nowhere xs k 0 (λ j d lt. absurd (omega arith))
      (λ j d le lt. behind (suc j) d (omega arith) (omega arith))
  find_nowhere (x ∷ xs) k (suc at) before behind =
      ap (λ r. cond (is_eq r) (Some (entry x).1) (find R k (shown xs)))
      (turned _ _ Less (before 0 x (omega arith)))
      ∙ find_nowhere xs k at (λ j d lt. before (suc j) d (omega arith))
      (λ j d le lt. behind (suc j) d (omega arith) (omega arith))

  pub put_nowhere : (xs : List A) (k : K) (v : X) (at : ℕ) (new : A) → at ≤ length xs
      → ((j : ℕ) (d : A) → j < at → R (entry (get_or xs j d)).0 k ≡ Less)
      → ((j : ℕ) (d : A) → at ≤ j → j < length xs → R (entry (get_or xs j d)).0 k ≡ Greater)
      → entry new ≡ (k, v)
      → shown (insert xs at new) ≡ put R k v (shown xs)
  put_nowhere [] k v zero new le before behind is = λ i. is i ∷ []
  put_nowhere [] k v (suc at) new le before behind is = absurd (omega arith)
  put_nowhere (x ∷ xs) k v zero new le before behind is =
      (λ i. is i ∷ entry x ∷ shown xs)
      ∙ sym (ap (λ r. by_order r ((k, v) ∷ entry x ∷ shown xs) (((entry x).0, v) ∷ shown xs)
      (entry x ∷ put R k v (shown xs)))
      (turned _ _ Greater (behind 0 x (omega arith) (omega arith))))
  put_nowhere (x ∷ xs) k v (suc at) new le before behind is =
      ap (λ (es : List (K × X)). entry x ∷ es)
      (put_nowhere xs k v at new (omega arith) (λ j d lt. before (suc j) d (omega arith))
      (λ j d lower lt. behind (suc j) d (omega arith) (omega arith)) is)
      ∙ sym (ap (λ r. by_order r ((k, v) ∷ entry x ∷ shown xs) (((entry x).0, v) ∷ shown xs)
      (entry x ∷ put R k v (shown xs))) (turned _ _ Less (before 0 x (omega arith))))

flipped : (r : Ordering) → is_eq (ordering_reverse r) ≡ is_eq r
flipped Less = refl
flipped Equal = refl
flipped Greater = refl

alike : {K : Type 0} {R : K → K → Ordering} → IsTotalOrder R → (k q x : K) → R q x ≡ Equal
    → not (eq_by_cmp R k x) ≡ not (eq_by_cmp R k q)
alike o k q x t = ap (λ r. not (is_eq r)) (sym (alike_right o q x k t))

-- the same of the finite maps that lists of entries stand for
module _ {K X : Type 0} {R : K → K → Ordering} (o : IsTotalOrder R) (only : IsAntisymmetric R) where
  pub sorted_put : (es fs : List (K × X)) (k : K) (v : X) → T (is_sorted R es) → fs ≡ put R k v es
      → T (is_sorted R fs)
  sorted_put es fs k v h is = subst (λ gs. T (is_sorted R gs)) (sym is) (is_sorted-put R o k v es h)

  pub map_put : (es fs : List (K × X)) (k : K) (v : X) → T (is_sorted R es) → fs ≡ put R k v es
      → from_sorted {R = R} fs ≡ fin.insert (from_sorted es) k v
  map_put es fs k v h is =
      same_map o only _ _ (λ q.
      get-from_sorted R fs q (sorted_put es fs k v h is)
      ∙ (ap (find R q) (is ∙ ap (put R k v) (sym (entries-from_sorted R es h)))
      ∙ (ap (find R q) (sym (entries-insert o (from_sorted es) k v))
      ∙ sym (get-entries (fin.insert (from_sorted es) k v) q))))

  pub sorted_without : (es fs : List (K × X)) (p : K → Bool) → T (is_sorted R es)
      → fs ≡ where_key R p es → T (is_sorted R fs)
  sorted_without es fs p h is = subst (λ gs. T (is_sorted R gs)) (sym is)
      (is_sorted-where_key R p es h)

  other_way : (b : Bool) (x : Option X) → cond (not b) x None ≡ cond b None x
  other_way true x = refl
  other_way false x = refl

  pub map_without : (es fs : List (K × X)) (k : K) → T (is_sorted R es)
      → fs ≡ where_key R (λ q. not (eq_by_cmp R k q)) es
      → from_sorted {R = R} fs ≡ fin.remove (from_sorted es) k
  map_without es fs k h is =
      same_map o only _ _ (λ q.
      get-from_sorted R fs q (sorted_without es fs (λ x. not (eq_by_cmp R k x)) h is)
      ∙ (ap (find R q) is
      ∙ (find-where_key R (λ x. not (eq_by_cmp R k x)) q (alike o k q) es
      ∙ (other_way (eq_by_cmp R k q) (find R q es)
      ∙ (ap (λ b. cond b None (find R q es)) (ap is_eq (o.antisymm k q) ∙ flipped (R q k))
      ∙ (ap (cond (eq_by_cmp R q k) None) (sym (get-from_sorted R es q h))
      ∙ sym (get-remove o (from_sorted es) k q)))))))

  absent_case : (m : FinMap R X) (k q : K) (r : Ordering) → R q k ≡ r → get m k ≡ None
      → get m q ≡ cond (is_eq r) None (get m q)
  absent_case m k q Less t none = refl
  absent_case m k q Equal t none = sym (get_tied o m q k t) ∙ none
  absent_case m k q Greater t none = refl

  pub map_without_none : (m : FinMap R X) (k : K) → get m k ≡ None → m ≡ fin.remove m k
  map_without_none m k none = same_map o only _ _
      (λ q. absent_case m k q (R q k) refl none ∙ sym (get-remove o m k q))
