-- The keys of a map in shards, sorted, are the map's keys in their order.
use Rattle.std.proofs.Common.{◌≡◌, ℕ, zero, suc, ◌+◌, ◌<◌, ◌≤◌, Bool, true, false, List, [], ◌∷◌}
use Rattle.std.proofs.Common.{◌++◌, length, get_or, map, take, append-nil, append_assoc, refl, sym}
use Rattle.std.proofs.Common.{ap, ◌∙◌, subst, arith, Option, Some, None, cond}
use Rattle.std.proofs.lemmas.List.{map-append, map_more, take_all}
use Rattle.std.proofs.lemmas.List.Sums.{sum_by-cons, sum_by-append}
use Rattle.std.proofs.lemmas.List.Sorted.{sum_by-IsPermutation, sorted_far, ranks_by}
use Rattle.std.specs.Prelude.{T, is_some, ◌&&◌, not}
use Rattle.std.specs.List.{sum_by}
use Rattle.std.specs.List.Sorted.{IsPermutation, IsSorted}
use Rattle.std.specs.declared.cmp.Ordering.{Ordering}
use Rattle.std.specs.declared.cmp.Ordering.TheVariants.{Less, Equal, Greater}
use Rattle.std.specs.Ordering.{eq_by_cmp, is_eq, is_lt, ordering_reverse}
use Rattle.std.specs.Cmp.{IsTotalOrder, tied_itself}
use Rattle.std.specs.FinMap.{FinMap, IsAntisymmetric, empty, len-empty, len-entries, entries}
use Rattle.std.specs.FinMap.{entries-from_sorted, entries_sorted, find, get, is_sorted, keys}
use Rattle.std.specs.FinMap.{get-entries, get-from_entries}
use Rattle.std.specs.FinMap.Entries.{below_all, length_without, where_key}
use Rattle.addr_book.specs.Sorted.{IsInOrder, map_of}
use Rattle.addr_book.specs.Shards.{AreHome, joined, joined_keys, whole}
use Rattle.addr_book.proofs.Shards.{no_length, either, find-both, none_later}

first : (a b : Bool) → T (a && b) → T a
first true b p = tt
first false b p = p

second : (a b : Bool) → T (a && b) → T b
second true b p = p
second false b p = absurd p

less : (r : Ordering) → T (is_lt r) → r ≡ Less
less Less p = refl
less Equal p = absurd p
less Greater p = absurd p

equal : (r : Ordering) → is_eq r ≡ true → r ≡ Equal
equal Less e = cc
equal Equal e = refl
equal Greater e = cc

module _ {K : Type 0} {R : K → K → Ordering} (o : IsTotalOrder R) (only : IsAntisymmetric R) where
  -- whether two keys tie, as a number
  abbrev tie : K → K → ℕ
  tie q k = cond (eq_by_cmp R q k) 1 0

  -- how often a key stands in a list
  abbrev times : K → List K → ℕ
  times q ks = sum_by (tie q) ks

  -- no key of a list is below this one
  abbrev NoneBelow : K → List K → Type 0
  NoneBelow x [] = Unit {0}
  NoneBelow x (y ∷ ys) = (is_lt (R y x) ≡ false) × NoneBelow x ys

  -- no later key is below an earlier one
  abbrev Climb : List K → Type 0
  Climb [] = Unit {0}
  Climb (x ∷ xs) = NoneBelow x xs × Climb xs

  none_below : (x : K) (ys : List K)
      → ((j : ℕ) → j < length ys → is_lt (R (get_or ys j x) x) ≡ false) → NoneBelow x ys
  none_below x [] h = tt
  none_below x (y ∷ ys) h =
      (h zero (omega arith), none_below x ys (λ j lt. h (suc j) (omega (arith, lt))))

  -- what a sort gives climbs
  sorted-climb : (xs : List K)
      → ((i j : ℕ) (d : K) → i ≤ j → j < length xs → is_lt (R (get_or xs j d) (get_or xs i d))
      ≡ false) → Climb xs
  sorted-climb [] h = tt
  sorted-climb (x ∷ xs) h = (
    none_below x xs (λ j lt. h zero (suc j) x (omega arith) (omega (arith, lt))),
    sorted-climb xs (λ i j d le lt. h (suc i) (suc j) d (omega (arith, le)) (omega (arith, lt))),
  )

  not_less : (x y : K) → R x y ≡ Less → is_lt (R y x) ≡ false
  not_less x y e = ap is_lt (o.antisymm y x ∙ ap ordering_reverse e)

  keys-none_below : {V : Type 0} (x : K) (es : List (K × V)) → T (below_all R x es)
      → NoneBelow x (map (λ e. e.0) es)
  keys-none_below x [] h = tt
  keys-none_below x (e ∷ es) h =
      (not_less x e.0 (less _ (first _ _ h)), keys-none_below x es (second _ _ h))

  -- keys that strictly rise climb
  keys-climb : {V : Type 0} (es : List (K × V)) → T (is_sorted R es) → Climb (map (λ e. e.0) es)
  keys-climb [] h = tt
  keys-climb (e ∷ es) h = (keys-none_below e.0 es (first _ _ h), keys-climb es (second _ _ h))

  -- a key that is below all of a list does not stand in it
  none_times : (q y : K) (ys : List K) → R q y ≡ Less → NoneBelow y ys → times q ys ≡ 0
  none_times q y [] lt h = refl
  none_times q y (z ∷ ys) lt h =
      sum_by-cons (tie q) z ys ∙ by_tie (none_times q y ys lt h.1) (eq_by_cmp R q z) refl
    where
      by_tie : times q ys ≡ 0 → (b : Bool) → eq_by_cmp R q z ≡ b → cond b 1 0 + times q ys ≡ 0
      by_tie rest true e =
          let under : is_lt (R z y) ≡ true = ap is_lt (sym (o.congr q z y (equal _ e)) ∙ lt) in
          let above : is_lt (R z y) ≡ false = h.0 in
          absurd (cc)
      by_tie rest false e = omega (arith, rest)

  own_tie : (x : K) → tie x x ≡ 1
  own_tie x = ap (λ r. cond (is_eq r) 1 0) (tied_itself o x)

  below_first : (x y : K) (ys : List K) → R x y ≡ Less → NoneBelow y ys → times x (y ∷ ys) ≡ 0
  below_first x y ys lt h = sum_by-cons (tie x) y ys
      ∙ (λ i. cond (is_eq (lt i)) 1 0 + none_times x y ys lt h i)

  -- lists that climb and have each key as often are the same
  same_climb : (xs ys : List K) → Climb xs → Climb ys → ((q : K) → times q xs ≡ times q ys)
      → xs ≡ ys
  same_climb [] [] up up' same = refl
  same_climb [] (y ∷ ys) up up' same =
      absurd (omega (arith, same y, sum_by-cons (tie y) y ys, own_tie y))
  same_climb (x ∷ xs) [] up up' same =
      absurd (omega (arith, same x, sum_by-cons (tie x) x xs, own_tie x))
  same_climb (x ∷ xs) (y ∷ ys) up up' same = by_order (same_climb xs ys up.1 up'.1) (R x y) refl
    where
      rest : x ≡ y → (q : K) → times q xs ≡ times q ys
      rest e q =
          let firsts : tie q x ≡ tie q y = ap (tie q) e in
          omega (arith, same q, sum_by-cons (tie q) x xs, sum_by-cons (tie q) y ys, firsts)

      by_order : (((q : K) → times q xs ≡ times q ys) → xs ≡ ys) → (r : Ordering) → R x y ≡ r
          → x ∷ xs ≡ y ∷ ys
      by_order tails Less e =
          absurd (omega (
            arith,
            same x,
            sum_by-cons (tie x) x xs,
            own_tie x,
            below_first x y ys e up'.0,
          ))
      by_order tails Equal e =
          let heads = only x y e in
          λ i. heads i ∷ tails (rest heads) i
      by_order tails Greater e =
          let less' : R y x ≡ Less = o.antisymm y x ∙ ap ordering_reverse e in
          absurd (omega (
            arith,
            same y,
            sum_by-cons (tie y) y ys,
            own_tie y,
            below_first y x xs less' up.0,
          ))

  module _ {V : Type 0} where
    others : (q : K) (es : List (K × V))
        → times q (map (λ e. e.0) es) + length (where_key R (λ x. not (eq_by_cmp R q x)) es)
        ≡ length es
    others q [] = refl
    others q (e ∷ es) = by_tie (others q es) (eq_by_cmp R q e.0) refl
      where
        left : List (K × V)
        left = where_key R (λ x. not (eq_by_cmp R q x)) es

        by_tie : times q (map (λ f. f.0) es) + length left ≡ length es → (b : Bool)
            → eq_by_cmp R q e.0 ≡ b → times q (e.0 ∷ map (λ f. f.0) es)
            + length (cond (not b) (e ∷ left) left) ≡ suc (length es)
        by_tie rest true is =
            omega (
              arith,
              sum_by-cons (tie q) e.0 (map (λ f. f.0) es),
              ap {B = ℕ} (λ b. cond b 1 0) is,
              rest,
            )
        by_tie rest false is =
            omega (
              arith,
              sum_by-cons (tie q) e.0 (map (λ f. f.0) es),
              ap {B = ℕ} (λ b. cond b 1 0) is,
              rest,
            )

    -- a key stands once among keys that strictly rise, or not at all
    times-found : (q : K) (es : List (K × V)) → T (is_sorted R es)
        → times q (map (λ e. e.0) es) ≡ cond (is_some (find R q es)) 1 0
    times-found q es h = omega (arith, others q es, length_without R o q es h)

    times-keys : (q : K) (m : FinMap R V) → times q (keys m) ≡ cond (is_some (get m q)) 1 0
    times-keys q m = times-found q (entries m) (entries_sorted m)
        ∙ ap (λ (x : Option V). cond (is_some x) 1 0) (sym (get-entries m q))

    module _ (home : K → ℕ) where
      both : (x y : Option V) → (is_some x ≡ true → y ≡ None)
          → cond (is_some x) 1 0 + cond (is_some y) 1 0 ≡ cond (is_some (either x y)) 1 0
      both None y alone = omega arith
      both (Some v) y alone = ap (λ (z : Option V). 1 + cond (is_some z) 1 0) (alone refl)

      -- a key stands once among the keys of all shards, or not at all
      times-joined : (q : K) (ms : List (FinMap R V)) (at : ℕ) → AreHome home at ms
          → times q (joined_keys ms) ≡ cond (is_some (find R q (joined ms))) 1 0
      times-joined q [] at h = refl
      times-joined q (m ∷ ms) at h =
          ap (times q) (map-append (λ e. e.0) (entries m) (joined ms))
          ∙ (sum_by-append (tie q) (keys m) (joined_keys ms)
          ∙ (counted (times-joined q ms (at + 1) h.1)
          ∙ (both (find R q (entries m)) (find R q (joined ms)) alone
          ∙ ap (λ (x : Option V). cond (is_some x) 1 0)
          (sym (find-both o only home q (entries m) (joined ms))))))
        where
          alone : is_some (find R q (entries m)) ≡ true → find R q (joined ms) ≡ None
          alone has = none_later o only home ms (at + 1) h.1 q
              (let own = h.0 q (ap is_some (get-entries m q) ∙ has) in omega (arith, own))

          counted : times q (joined_keys ms) ≡ cond (is_some (find R q (joined ms))) 1 0
              → times q (keys m) + times q (joined_keys ms)
              ≡ cond (is_some (find R q (entries m))) 1 0 + cond
              (is_some (find R q (joined ms))) 1 0
          counted rest = λ i. times-found q (entries m) (entries_sorted m) i + rest i

      -- the keys of all shards, sorted
      pub sorted_keys : (ms : List (FinMap R V)) → AreHome home 0 ms → (ks : List K)
          → IsPermutation (joined_keys ms) ks → IsSorted R ks → ks ≡ keys (whole ms)
      sorted_keys ms h ks moved sorted =
          same_climb ks (keys (whole ms))
          (sorted-climb ks (sorted_far _ (ranks_by o (λ k. k)) ks sorted))
          (keys-climb (entries (whole ms)) (entries_sorted (whole ms))) (λ q.
          sum_by-IsPermutation (tie q) (joined_keys ms) ks moved
          ∙ (times-joined q ms 0 h
          ∙ (ap (λ (x : Option V). cond (is_some x) 1 0) (sym (get-from_entries o (joined ms) q))
          ∙ sym (times-keys q (whole ms)))))

-- the keys of one shard more
module _ {K V : Type 0} {R : K → K → Ordering} where
  joined-push : (ms : List (FinMap R V)) (m : FinMap R V)
      → joined (ms ++ m ∷ []) ≡ joined ms ++ entries m
  joined-push [] m = append-nil (entries m)
  joined-push (x ∷ ms) m = ap (λ es. entries x ++ es) (joined-push ms m)
      ∙ sym (append_assoc (entries x) (joined ms) (entries m))

  keys-push : (ms : List (FinMap R V)) (m : FinMap R V)
      → joined_keys (ms ++ m ∷ []) ≡ joined_keys ms ++ keys m
  keys-push ms m = ap (map (λ e. e.0)) (joined-push ms m)
      ∙ map-append (λ e. e.0) (joined ms) (entries m)

  pub joined_keys-more : {T : Type 0} (shard : T → FinMap R V) (ss : List T) (i : ℕ) (d : T)
      → i < length ss
      → joined_keys (map shard (take (i + 1) ss)) ≡ joined_keys (map shard (take i ss))
      ++ keys (shard (get_or ss i d))
  joined_keys-more shard ss i d lt = ap joined_keys (map_more shard ss i d lt)
      ∙ keys-push (map shard (take i ss)) (shard (get_or ss i d))

-- ---- names that are put one by one
pub put_more : {X K : Type 0} (key : X → K) (xs : List X) (i : ℕ) (d : X)
    (before some more : List K) (k : K)
    → i < length xs → some ≡ before ++ map key (take i xs) → more ≡ some ++ k ∷ []
    → k ≡ key (get_or xs i d) → more ≡ before ++ map key (take (i + 1) xs)
put_more {K = K} key xs i d before some more k lt so_far new is =
    new
    ∙ ((λ j. so_far j ++ is j ∷ [])
    ∙ (append_assoc before (map key (take i xs)) (key (get_or xs i d) ∷ [])
    ∙ ap (λ (ks : List K). before ++ ks) (sym (map_more key xs i d lt))))

pub put_all : {X K : Type 0} (key : X → K) (xs : List X) (i : ℕ) → length xs ≤ i
    → map key (take i xs) ≡ map key xs
put_all key xs i past = ap (map key) (take_all i xs past)

map_twice : {X Y Z : Type 0} (f : X → Y) (g : Y → Z) (xs : List X)
    → map (λ x. g (f x)) xs ≡ map g (map f xs)
map_twice f g [] = refl
map_twice {Z = Z} f g (x ∷ xs) = ap (λ (zs : List Z). g (f x) ∷ zs) (map_twice f g xs)

pub map_keys : {X K V : Type 0} (R : K → K → Ordering) (entry : X → K × V) (xs : List X)
    → IsInOrder R entry xs → map (λ x. (entry x).0) xs ≡ keys (map_of {R = R} entry xs)
map_keys R entry xs h = map_twice entry (λ e. e.0) xs
    ∙ ap (map (λ e. e.0)) (sym (entries-from_sorted R (map entry xs) (subst T (sym h) tt)))

pub keys-empty : {K : Type 0} (R : K → K → Ordering) (V : Type 0)
    → keys (empty {X = V} {R = R}) ≡ []
keys-empty R V = ap (map (λ e. e.0))
    (no_length (entries (empty {X = V} {R = R}))
    (sym (len-entries (empty {X = V} {R = R})) ∙ len-empty R V))
