-- What a map in shards answers, and how it changes with one shard.
use Rattle.std.proofs.Common.{◌≡◌, ◌≢◌, ℕ, zero, suc, ◌+◌, ◌<◌, ◌≤◌, Bool, true, false, List, []}
use Rattle.std.proofs.Common.{◌∷◌, ◌++◌, length, get_or, set, take, refl, sym, ap, ◌∙◌, subst}
use Rattle.std.proofs.Common.{arith, Option, Some, None, cond, get_or-set_same, get_or-set_other}
use Rattle.std.proofs.Common.{length-set, map, ⊎_elim}
use Rattle.std.proofs.lemmas.List.{length-map, get_or-map, get_or_default, map-set, map_more}
use Rattle.std.proofs.lemmas.List.{take_all}
use Rattle.std.proofs.lemmas.Bool.{cases_eq}
use Rattle.std.specs.Prelude.{is_some}
use Rattle.std.specs.declared.cmp.Ordering.{Ordering}
use Rattle.std.specs.Ordering.{eq_by_cmp}
use Rattle.std.specs.Cmp.{IsTotalOrder, Equal-is}
use Rattle.std.specs.FinMap.{FinMap, IsAntisymmetric, empty, entries, find, get, insert, remove}
use Rattle.std.specs.FinMap.{contains_key, get-empty, get-entries, get-from_entries, get-insert}
use Rattle.std.specs.FinMap.{get-remove, same_map, len-entries, len-empty}
use Rattle.addr_book.specs.Shards.{IsChanged, joined, whole, AreHome, IsSharded}

pub no_length : {A : Type 0} (xs : List A) → length xs ≡ 0 → xs ≡ []
no_length [] e = refl
no_length (x ∷ xs) e = absurd (omega arith)

abbrev pub either : {V : Type 0} → Option V → Option V → Option V
either None p = p
either (Some x) p = Some x

is_none : {V : Type 0} (x : Option V) → is_some x ≡ false → x ≡ None
is_none None e = refl
is_none (Some v) e = cc

not_true : (b : Bool) → (b ≡ true → ⊥) → b ≡ false
not_true true h = absurd (h refl)
not_true false h = refl

tied_is : {K : Type 0} {R : K → K → Ordering} → IsAntisymmetric R → (q k : K)
    → eq_by_cmp R q k ≡ true → q ≡ k
tied_is {R = R} only q k e = only q k ((Equal-is (R q k)).0 e)

module _ {K V : Type 0} {R : K → K → Ordering} (o : IsTotalOrder R) (only : IsAntisymmetric R)
    (home : K → ℕ) where
  pub find-both : (q : K) (es fs : List (K × V)) → find R q (es ++ fs)
      ≡ either (find R q es) (find R q fs)
  find-both q [] fs = refl
  find-both q (e ∷ es) fs =
      let rest = find-both q es fs in
      elim (eq_by_cmp R q e.0) as (λ b. cond b (Some e.1) (find R q (es ++ fs))
      ≡ either (cond b (Some e.1) (find R q es)) (find R q fs)) [ true ↦ refl | false ↦ rest ]

  away : (m : FinMap R V) (at : ℕ) → ((q : K) → contains_key m q ≡ true → home q ≡ at) → (q : K)
      → home q ≢ at → get m q ≡ None
  away m at own q other = is_none (get m q) (not_true (contains_key m q) (λ e. other (own q e)))

  pub none_later : (ms : List (FinMap R V)) (at : ℕ) → AreHome home at ms → (q : K) → home q < at
      → find R q (joined ms) ≡ None
  none_later [] at h q lt = refl
  none_later (m ∷ ms) at h q lt =
      let here = sym (get-entries m q) ∙ away m at h.0 q (λ e. absurd (omega arith)) in
      let rest = none_later ms (at + 1) h.1 q (omega arith) in
      find-both q (entries m) (joined ms) ∙ (λ i. either (here i) (rest i))

  either_none : (x : Option V) → either x None ≡ x
  either_none None = refl
  either_none (Some x) = refl

  find-joined : (ms : List (FinMap R V)) (at : ℕ) → AreHome home at ms → (q : K) (n : ℕ)
      → home q ≡ at + n → find R q (joined ms) ≡ get (get_or ms n empty) q
  find-joined [] at h q n e = sym (get-empty R q)
  find-joined (m ∷ ms) at h q zero e =
      find-both q (entries m) (joined ms)
      ∙ (ap (either (find R q (entries m))) (none_later ms (at + 1) h.1 q (omega arith))
      ∙ (either_none (find R q (entries m)) ∙ sym (get-entries m q)))
  find-joined (m ∷ ms) at h q (suc n) e =
      let here = sym (get-entries m q) ∙ away m at h.0 q (λ f. absurd (omega arith)) in
      find-both q (entries m) (joined ms)
      ∙ (ap (λ x. either x (find R q (joined ms))) here
      ∙ find-joined ms (at + 1) h.1 q n (omega arith))

  pub get-whole : (ms : List (FinMap R V)) → AreHome home 0 ms → (q : K)
      → get (whole ms) q ≡ get (get_or ms (home q) empty) q
  get-whole ms h q = get-from_entries o (joined ms) q ∙ find-joined ms 0 h q (home q) (omega arith)

  home-set : (ms : List (FinMap R V)) (at n : ℕ) (m : FinMap R V) → AreHome home at ms
      → ((q : K) → contains_key m q ≡ true → home q ≡ at + n) → AreHome home at (set ms n m)
  home-set [] at n m h own = h
  home-set (x ∷ ms) at zero m h own = (λ q e. own q e ∙ omega arith, h.1)
  home-set (x ∷ ms) at (suc n) m h own =
      (h.0, home-set ms (at + 1) n m h.1 (λ q e. own q e ∙ omega arith))

  home_at : (ms : List (FinMap R V)) (at : ℕ) → AreHome home at ms → (n : ℕ) (q : K)
      → contains_key (get_or ms n empty) q ≡ true → home q ≡ at + n
  home_at [] at h n q e = let none = ap is_some (get-empty {X = V} R q) in cc
  home_at (m ∷ ms) at h zero q e = h.0 q e ∙ omega arith
  home_at (m ∷ ms) at h (suc n) q e = home_at ms (at + 1) h.1 n q e ∙ omega arith

  module _ (ms : List (FinMap R V)) (h : AreHome home 0 ms) (k : K)
      (within : home k < length ms) where
    abbrev own : FinMap R V
    own = get_or ms (home k) empty

    own_home : (q : K) → contains_key own q ≡ true → home q ≡ home k
    own_home q e = home_at ms 0 h (home k) q e ∙ omega arith

    -- what the shards answer where that of a key is another
    changed_here : (m : FinMap R V) → AreHome home 0 (set ms (home k) m) → (q : K)
        → home q ≡ home k → get (whole (set ms (home k) m)) q ≡ get m q
    changed_here m owns q e =
        get-whole (set ms (home k) m) owns q
        ∙ ap (λ x. get x q) (ap (λ n. get_or (set ms (home k) m) n empty) e
        ∙ get_or-set_same ms (home k) m empty within)

    changed_other : (m : FinMap R V) → AreHome home 0 (set ms (home k) m) → (q : K)
        → home q ≢ home k → get (whole (set ms (home k) m)) q ≡ get (whole ms) q
    changed_other m owns q ne =
        get-whole (set ms (home k) m) owns q
        ∙ (ap (λ x. get x q) (get_or-set_other ms (home k) (home q) m empty ne)
        ∙ sym (get-whole ms h q))

    own_is : (q : K) → home q ≡ home k → get own q ≡ get (whole ms) q
    own_is q e = ap (λ n. get (get_or ms n empty) q) (sym e) ∙ sym (get-whole ms h q)

    not_key : (q : K) → home q ≢ home k → eq_by_cmp R q k ≡ false
    not_key q ne = not_true (eq_by_cmp R q k) (λ e. ne (ap home (tied_is only q k e)))

    kept : (m : FinMap R V) → ((q : K) → contains_key m q ≡ true → home q ≡ home k)
        → AreHome home 0 (set ms (home k) m)
    kept m owns = home-set ms 0 (home k) m h (λ q e. owns q e ∙ omega arith)

    inserted_home : (v : V) (q : K) → contains_key (insert own k v) q ≡ true → home q ≡ home k
    inserted_home v q e = go (eq_by_cmp R q k) refl (sym (ap is_some (get-insert o own k v q)) ∙ e)
      where
        go : (b : Bool) → eq_by_cmp R q k ≡ b → is_some (cond b (Some v) (get own q)) ≡ true
            → home q ≡ home k
        go true t f = ap home (tied_is only q k t)
        go false t f = own_home q f

    removed_home : (q : K) → contains_key (remove own k) q ≡ true → home q ≡ home k
    removed_home q e = go (eq_by_cmp R q k) (sym (ap is_some (get-remove o own k q)) ∙ e)
      where
        go : (b : Bool) → is_some (cond b None (get own q)) ≡ true → home q ≡ home k
        go true f = cc
        go false f = own_home q f

    pub home-insert : (v : V) → AreHome home 0 (set ms (home k) (insert own k v))
    home-insert v = kept (insert own k v) (inserted_home v)

    pub home-remove : AreHome home 0 (set ms (home k) (remove own k))
    home-remove = kept (remove own k) removed_home

    pub whole-insert : (v : V) → whole (set ms (home k) (insert own k v)) ≡ insert (whole ms) k v
    whole-insert v =
        same_map o only (whole (set ms (home k) (insert own k v))) (insert (whole ms) k v) (λ q.
        ⊎_elim
        (λ e. changed_here (insert own k v) (home-insert v) q e
        ∙ (get-insert o own k v q
        ∙ (ap (cond (eq_by_cmp R q k) (Some v)) (own_is q e)
        ∙ sym (get-insert o (whole ms) k v q))))
        (λ ne. changed_other (insert own k v) (home-insert v) q ne
        ∙ (ap (λ b. cond b (Some v) (get (whole ms) q)) (sym (not_key q ne))
        ∙ sym (get-insert o (whole ms) k v q)))
        (cases_eq (home q) (home k)))

    pub whole-remove : whole (set ms (home k) (remove own k)) ≡ remove (whole ms) k
    whole-remove =
        same_map o only (whole (set ms (home k) (remove own k))) (remove (whole ms) k) (λ q.
        ⊎_elim
        (λ e. changed_here (remove own k) home-remove q e
        ∙ (get-remove o own k q
        ∙ (ap (cond (eq_by_cmp R q k) None) (own_is q e) ∙ sym (get-remove o (whole ms) k q))))
        (λ ne. changed_other (remove own k) home-remove q ne
        ∙ (ap (λ b. cond b None (get (whole ms) q)) (sym (not_key q ne))
        ∙ sym (get-remove o (whole ms) k q)))
        (cases_eq (home q) (home k)))

    pub own-whole : get own k ≡ get (whole ms) k
    own-whole = own_is k refl

-- shards that never had a key
abbrev pub AreNone : {T : Type 0} → List (Option T) → Type 0
AreNone [] = Unit {0}
AreNone (s ∷ ss) = (s ≡ None) × AreNone ss

pub none-push : {T : Type 0} (ss ts : List (Option T)) → AreNone ss → ts ≡ ss ++ None ∷ []
    → AreNone ts
none-push {T} ss ts h e = subst AreNone (sym e) (push ss h)
  where
    push : (xs : List (Option T)) → AreNone xs → AreNone (xs ++ None ∷ [])
    push [] g = (refl, tt)
    push (x ∷ xs) g = (g.0, push xs g.1)

module _ {K V T : Type 0} {R : K → K → Ordering} (home : K → ℕ) (shard : Option T → FinMap R V)
    (none : shard None ≡ empty) where
  pub none-joined : (ss : List (Option T)) → AreNone ss → joined (map shard ss) ≡ []
  none-joined [] h = refl
  none-joined (s ∷ ss) h = (λ i. entries (first i) ++ none-joined ss h.1 i)
      ∙ ap (λ es. es ++ []) (entries_none)
    where
      first : shard s ≡ empty
      first = ap shard h.0 ∙ none

      entries_none : entries (empty {X = V} {R = R}) ≡ []
      entries_none = no_length (entries (empty {X = V} {R = R}))
          (sym (len-entries (empty {X = V} {R = R})) ∙ len-empty R V)

  pub none-home : (ss : List (Option T)) (at : ℕ) → AreNone ss → AreHome home at (map shard ss)
  none-home [] at h = tt
  none-home (s ∷ ss) at h = (
    λ q e. let no = ap (λ m. contains_key m q) (ap shard h.0 ∙ none)
        ∙ ap is_some (get-empty {X = V} R q) in cc,
    none-home ss (at + 1) h.1,
  )

-- shards that may be missing, which stand for empty ones
module _ {K V T : Type 0} {R : K → K → Ordering} (o : IsTotalOrder R) (only : IsAntisymmetric R)
    (home : K → ℕ) (shard : Option T → FinMap R V) (count : ℕ)
    (ss : List (Option T)) (h : IsSharded home count (map shard ss)) (k : K) (place : ℕ)
    (is : place ≡ home k) (below : place < count) where
  long : length ss ≡ count
  long = sym (length-map ss shard) ∙ h.long

  within : home k < length (map shard ss)
  within = omega (arith, is, below, h.long)

  own_at : shard (get_or ss place None) ≡ get_or (map shard ss) (home k) empty
  own_at = sym (get_or-map shard ss place None empty (omega (arith, long, below)))
      ∙ ap (λ n. get_or (map shard ss) n empty) is

  -- what a key's shard answers
  pub shard_gets : get (shard (get_or ss place None)) k ≡ get (whole (map shard ss)) k
  shard_gets = ap (λ m. get m k) own_at ∙ own-whole o only home (map shard ss) h.placed k within

  module _ (now : FinMap R V) (after : List (Option T))
      (change : IsChanged shard ss after place now) where
    replaced : map shard after ≡ set (map shard ss) (home k) now
    replaced = ap (map shard) change.changed
        ∙ (map-set shard ss place change.new ∙ (λ i. set (map shard ss) (is i) (change.has i)))

    length_kept : length (map shard after) ≡ count
    length_kept = ap length replaced ∙ (length-set (map shard ss) (home k) now ∙ h.long)

  -- a key more in its shard
  module _ (v : V) (after : List (Option T))
      (change : IsChanged shard ss after place (insert (shard (get_or ss place None)) k v)) where
    inserted : map shard after ≡ set (map shard ss) (home k)
        (insert (get_or (map shard ss) (home k) empty) k v)
    inserted = replaced _ after change ∙ ap (λ m. set (map shard ss) (home k) (insert m k v)) own_at

    pub shards_insert : whole (map shard after) ≡ insert (whole (map shard ss)) k v
    shards_insert = ap whole inserted ∙ whole-insert o only home (map shard ss) h.placed k within v

    pub sharded_insert : IsSharded home count (map shard after)
    sharded_insert = record {
      long = length_kept _ after change;
      placed =
          subst (AreHome home 0) (sym inserted)
          (home-insert o only home (map shard ss) h.placed k within v);
    }

  -- a key fewer
  module _ (after : List (Option T))
      (change : IsChanged shard ss after place (remove (shard (get_or ss place None)) k)) where
    removed : map shard after ≡ set (map shard ss) (home k)
        (remove (get_or (map shard ss) (home k) empty) k)
    removed = replaced _ after change ∙ ap (λ m. set (map shard ss) (home k) (remove m k)) own_at

    pub shards_remove : whole (map shard after) ≡ remove (whole (map shard ss)) k
    shards_remove = ap whole removed ∙ whole-remove o only home (map shard ss) h.placed k within

    pub sharded_remove : IsSharded home count (map shard after)
    sharded_remove = record {
      long = length_kept _ after change;
      placed =
          subst (AreHome home 0) (sym removed)
          (home-remove o only home (map shard ss) h.placed k within);
    }

  -- what is read at the place
  pub read_gets : (x : Option T) → x ≡ get_or ss place x
      → get (shard x) k ≡ get (whole (map shard ss)) k
  read_gets x e = ap (λ s. get (shard s) k)
      (e ∙ get_or_default ss place x None (omega (arith, long, below))) ∙ shard_gets

pub copied_more : {X Y : Type 0} (f : X → Y) (xs ys zs : List X) (i : ℕ) (d y : X) → i < length xs
    → map f ys ≡ map f (take i xs) → zs ≡ ys ++ y ∷ [] → f y ≡ f (get_or xs i d)
    → map f zs ≡ map f (take (i + 1) xs)
copied_more {X} {Y} f xs ys zs i d y lt same is new =
    ap (map f) is ∙ (map_push f ys y ∙ ((λ j. same j ++ new j ∷ []) ∙ sym (map_more f xs i d lt)))
  where
    map_push : (f : X → Y) (xs : List X) (x : X) → map f (xs ++ x ∷ []) ≡ map f xs ++ f x ∷ []
    map_push f [] x = refl
    map_push f (z ∷ zs) x = ap (λ (ws : List Y). f z ∷ ws) (map_push f zs x)

pub copied_all : {X Y : Type 0} (f : X → Y) (xs ys : List X) (i : ℕ) → length xs ≤ i
    → map f ys ≡ map f (take i xs) → map f ys ≡ map f xs
copied_all f xs ys i past same = same ∙ ap (map f) (take_all i xs past)

-- nothing goes where no shard is
pub none_removed : {K V T : Type 0} {R : K → K → Ordering} → IsTotalOrder R → IsAntisymmetric R
    → (shard : Option T → FinMap R V) → shard None ≡ empty
    → (ss : List (Option T)) (place : ℕ) (x : Option T) (k : K)
    → place < length ss → x ≡ get_or ss place x → x ≡ None
    → IsChanged shard ss (set ss place x) place (remove (shard (get_or ss place None)) k)
none_removed {V = V} {R = R} o only shard none ss place x k lt at is =
    let read : get_or ss place None ≡ None = sym (get_or_default ss place x None lt)
    ∙ (sym at ∙ is) in
    let same : remove (empty {X = V} {R = R}) k ≡ empty = same_map o only _ _ (λ q.
    get-remove o empty k q
    ∙ (ap (cond (eq_by_cmp R q k) None) (get-empty R q)
    ∙ (same_twice (eq_by_cmp R q k) None ∙ sym (get-empty R q)))) in
    record {
      new = x;
      changed = refl;
      has = ap shard is ∙ (none ∙ (sym same ∙ ap (λ m. remove m k) (sym (ap shard read ∙ none))));
    }
  where
    same_twice : {X : Type 0} (b : Bool) (x : Option X) → cond b x x ≡ x
    same_twice true x = refl
    same_twice false x = refl

pub none_there : {K V T : Type 0} {R : K → K → Ordering} → (shard : Option T → FinMap R V)
    → shard None ≡ empty → (ss : List (Option T)) (place : ℕ) (x : Option T) (k : K)
    → place < length ss → x ≡ get_or ss place x → x ≡ None
    → false ≡ contains_key (shard (get_or ss place None)) k
none_there {R = R} shard none ss place x k lt at is =
    let read : get_or ss place None ≡ None = sym (get_or_default ss place x None lt)
    ∙ (sym at ∙ is) in
    sym (ap (λ m. contains_key m k) (ap shard read ∙ none) ∙ ap is_some (get-empty R k))
