-- A finite map whose keys another has is not the larger one.
use Rattle.std.proofs.Common.{◌≡◌, ℕ, zero, suc, ◌+◌, ◌-◌, ◌≤◌, List, [], ◌∷◌, length, Bool, true}
use Rattle.std.proofs.Common.{false, Option, None, cond, map, refl, sym, ap, ◌∙◌, arith}
use Rattle.std.specs.Prelude.{is_some, ◌||◌}
use Rattle.std.specs.declared.cmp.Ordering.{Ordering}
use Rattle.std.specs.Cmp.{IsTotalOrder, eq_by_cmp_equiv}
use Rattle.std.specs.Ordering.{eq_by_cmp}
use Rattle.std.specs.List.{list_any}
use Rattle.std.specs.FinMap.{FinMap, get, contains_key, remove, len, entries, len-entries}
use Rattle.std.specs.FinMap.{len-remove, get-remove, get-empty, empty_of_len, contains_key-keys}

removed_too : {X Y : Type 0} (b : Bool) (x : Option X) (y : Option Y)
    → (is_some x ≡ true → is_some y ≡ true) → is_some (cond b None x) ≡ true
    → is_some (cond b None y) ≡ true
removed_too true x y keeps has = has
removed_too false x y keeps has = keeps has

module _ {K : Type 0} {R : K → K → Ordering} (o : IsTotalOrder R) where
  -- the second map has each key of the first
  abbrev pub IsWithin : {X Y : Type 0} → FinMap R X → FinMap R Y → Type 0
  IsWithin m w = (q : K) → contains_key m q ≡ true → contains_key w q ≡ true

  pub within_removed : {X Y : Type 0} (m : FinMap R X) (w : FinMap R Y) (k : K) → IsWithin m w
      → IsWithin (remove m k) (remove w k)
  within_removed m w k within q has =
      ap is_some (get-remove o w k q) ∙ removed_too (eq_by_cmp R q k) (get m q) (get w q)
      (within q) (sym (ap is_some (get-remove o m k q)) ∙ has)

  first_has : {X : Type 0} (m : FinMap R X) (x : K × X) (es : List (K × X)) → entries m ≡ x ∷ es
      → contains_key m x.0 ≡ true
  first_has m x es is =
      contains_key-keys m x.0
      ∙ (ap (λ (ys : List (K × _)). list_any (eq_by_cmp R x.0) (map (λ e. e.0) ys)) is
      ∙ ap (λ b. b || list_any (eq_by_cmp R x.0) (map (λ e. e.0) es))
      ((eq_by_cmp_equiv o).refl x.0))

  -- a map that is not empty has a key
  first_key : {X : Type 0} (m : FinMap R X) (n : ℕ) → len m ≡ suc n
      → (k : K) × (contains_key m k ≡ true)
  first_key {X} m n is = by_entries (entries m) refl (sym (len-entries m) ∙ is)
    where
      by_entries : (es : List (K × X)) → entries m ≡ es → length es ≡ suc n
          → (k : K) × (contains_key m k ≡ true)
      by_entries [] e count = absurd (omega arith)
      by_entries (x ∷ es) e count = (x.0, first_has m x es e)

  -- without a key that it has a map is one smaller
  pub len_without : {X : Type 0} (m : FinMap R X) (k : K) → contains_key m k ≡ true
      → len (remove m k) + 1 ≡ len m
  len_without m k has = by_len (len m) refl
    where
      by_len : (n : ℕ) → len m ≡ n → len (remove m k) + 1 ≡ len m
      by_len zero e = let no =
          sym has ∙ (ap (λ w. contains_key w k) (empty_of_len m e) ∙ ap is_some (get-empty R k)) in
          absurd (cc)
      by_len (suc n) e = let less = len-remove o m k ∙ ap (λ b. cond b (len m - 1) (len m)) has in
          omega (arith, less, e)

  pub len_within : {X Y : Type 0} (n : ℕ) (m : FinMap R X) (w : FinMap R Y) → len m ≡ n
      → IsWithin m w → len m ≤ len w
  len_within zero m w is within = omega (arith, is)
  len_within (suc n) m w is within =
      let k = first_key m n is in
      let gone = len_without m k.0 k.1 in
      let fewer = len_without w k.0 (within k.0 k.1) in
      let rest = len_within n (remove m k.0) (remove w k.0) (omega (arith, gone, is))
      (within_removed m w k.0 within) in
      omega (arith, gone, fewer, rest)
