-- Prefixes in an index, and what matches some leaves of them.
use Rattle.std.proofs.Common.{◌≡◌, ◌⊎◌, inl, inr, ⊎_elim, ℕ, zero, suc, ◌+◌, ◌<◌, ◌≤◌, Bool, true}
use Rattle.std.proofs.Common.{false, List, [], ◌∷◌, ◌++◌, length, map, take, get_or, set, Bor, refl}
use Rattle.std.proofs.Common.{sym, ap, subst, ◌∙◌, arith}
use Rattle.std.specs.Prelude.{◌||◌, if◌then◌else◌}
use Rattle.std.specs.List.{Contains}
use Rattle.std.proofs.lemmas.Bool.{or_cases, or_left, or_right, cases_eq, cases_lt}
use Rattle.std.proofs.Math.Bool.{or-false}
use Rattle.std.proofs.lemmas.List.{get_or-set_same, get_or-set_other, get_or_append_left}
use Rattle.std.proofs.lemmas.List.{get_or_push, get_or_default, take_more, take_all, length_push}
use Rattle.std.proofs.lemmas.List.{map-append}
use Rattle.std.proofs.lemmas.List.Elements.{Contains-append_left, Contains-append_right}
use Rattle.std.proofs.lemmas.List.Elements.{Contains-append_cases, Contains-push}
use Rattle.std.proofs.lemmas.List.Elements.{Contains-push_cases}
use Rattle.name_tree.specs.Path.{Labels}
use Rattle.name_tree.specs.declared.path.Path.{Path}
use Rattle.dtab_index.specs.Index.{Placed, matches, matching, AreBelow}
use Rattle.dtab_table.specs.Pattern.{Pattern, pattern_of}
use Rattle.dtab_table.specs.Rules.{rule_of}
use Rattle.dtab_table.specs.declared.prefix.PrefixLabel.{PrefixLabel}
use Rattle.dtab_table.specs.declared.entry.Entry.{Entry}
use Rattle.dtab_check.specs.Live.{paths_of, some_leaf, reached_by}
use Rattle.dtab_check.specs.Rounds.{holds}
use Rattle.dtab_check.specs.Indexed.{prefix_at, AreOf, AreNoted, AreMet, Marks}
use Rattle.dtab_check.proofs.Rounds.{both_true}

pub contains_first : {X : Type 0} (x : X) (xs : List X) → Contains (x ∷ xs) x
contains_first x xs = (0, omega arith, refl)

pub contains_later : {X : Type 0} (y : X) (xs : List X) (x : X) → Contains xs x
    → Contains (y ∷ xs) x
contains_later y xs x c = (suc c.0, omega (arith, c.1), c.2)

contains_none : {X : Type 0} (x : X) → Contains [] x → ⊥
contains_none x c = omega (arith, c.1)

contains_cases : {X : Type 0} (y : X) (xs : List X) (x : X) → Contains (y ∷ xs) x
    → (y ≡ x) ⊎ Contains xs x
contains_cases y xs x (zero, within, is) = inl is
contains_cases y xs x (suc k, within, is) = inr (k, omega arith, is)

one_if : (b : Bool) (at z : ℕ) → Contains (if b then at ∷ [] else []) z → (b ≡ true) × (at ≡ z)
one_if false at z c = absurd (contains_none z c)
one_if true at z c = ⊎_elim (λ same. (refl, same)) (λ more. absurd (contains_none z more))
    (contains_cases at [] z c)

one_there : (b : Bool) (at z : ℕ) → b ≡ true → at ≡ z → Contains (if b then at ∷ [] else []) z
one_there false at z h same = cc
one_there true at z h same = (0, omega arith, same)

-- a position that is found is that of a prefix which matches
pub matching-from : (index : List Placed) (path : Labels) (z : ℕ)
    → Contains (matching index path) z → (prefix : List Pattern) × Contains index (prefix, z)
    × (matches prefix path ≡ true)
matching-from [] path z c = absurd (contains_none z c)
matching-from (p ∷ ps) path z c =
    ⊎_elim (λ later. let found = matching-from ps path z later in
    (found.0, contains_later p ps (found.0, z) found.1, found.2))
    (λ here.
    let it = one_if (matches p.0 path) p.1 z here in
    let same : p ≡ (p.0, z) = ap (λ (n : ℕ). (p.0, n)) it.1 in
    (p.0, subst (λ (q : Placed). Contains (p ∷ ps) q) same (contains_first p ps), it.0))
    (Contains-append_cases (matching ps path) (if matches p.0 path then p.1 ∷ [] else []) z c)

-- and the position of each that matches is found
pub matching-to : (index : List Placed) (path : Labels) (p : Placed) → Contains index p
    → matches p.0 path ≡ true → Contains (matching index path) p.1
matching-to [] path p c fit = absurd (contains_none p c)
matching-to (q ∷ qs) path p c fit =
    ⊎_elim (λ same.
    let fits : matches q.0 path ≡ true = ap (λ (r : Placed). matches r.0 path) same ∙ fit in
    let at : q.1 ≡ p.1 = ap (λ (r : Placed). r.1) same in
    Contains-append_right (matching qs path) (if matches q.0 path then q.1 ∷ [] else []) p.1
    (one_there (matches q.0 path) q.1 p.1 fits at))
    (λ later. Contains-append_left (matching qs path)
    (if matches q.0 path then q.1 ∷ [] else []) p.1 (matching-to qs path p later fit))
    (contains_cases q qs p c)

-- the prefix at a position
pub prefix_at-read : (entries : List Entry) (at : ℕ) (d : Entry) → at < length entries
    → prefix_at entries at ≡ (get_or entries at d).prefix
prefix_at-read [] at d within = absurd (omega arith)
prefix_at-read (e ∷ es) zero d within = refl
prefix_at-read (e ∷ es) (suc at) d within = prefix_at-read es at d (omega arith)

-- what was added to an index stands below the next position
pub below-more : (most : ℕ) (index : List Placed) → AreBelow most index → AreBelow (most + 1) index
below-more most [] below = tt
below-more most (p ∷ ps) below = (omega (arith, below.0), below-more most ps below.1)

below-push : (most : ℕ) (index : List Placed) (p : Placed) → p.1 < most → AreBelow most index
    → AreBelow most (index ++ p ∷ [])
below-push most [] p less below = (less, tt)
below-push most (q ∷ qs) p less below = (below.0, below-push most qs p less below.1)

-- an entry's prefix is put into an index
module _ (entries : List Entry) (at : ℕ) (index next : List Placed) (patterns : List Pattern)
    (within : at < length entries) (same : patterns ≡ prefix_at entries at)
    (added : next ≡ index ++ (patterns, at) ∷ []) where
  pub added-below : AreBelow at index → AreBelow (at + 1) next
  added-below below = rw added
      (below-push (at + 1) index (patterns, at) (omega arith) (below-more at index below))

  pub added-of : AreOf entries index → AreOf entries next
  added-of of_table p c =
      ⊎_elim (λ before. of_table p before)
      (λ (last : (patterns, at) ≡ p).
      let P : Placed → Type 0 = λ q. (q.1 < length entries) × (prefix_at entries q.1 ≡ q.0) in
      let own : P (patterns, at) = (within, sym same) in
      subst P last own)
      (Contains-push_cases index (patterns, at) p (rw added at c))

  pub added-kept : (p : Placed) → Contains index p → Contains next p
  added-kept p c = rw added (Contains-append_left index ((patterns, at) ∷ []) p c)

  pub added-noted : Contains next (prefix_at entries at, at)
  added-noted = rw (added, ← same) (Contains-push index (patterns, at))

-- where a prefix stands in an index that is that of an entry
pub stands-at : (entries : List Entry) (index : List Placed) (labels : Labels) (found : List ℕ)
    (k at : ℕ) → AreOf entries index → found ≡ matching index labels → k < length found
    → at ≡ get_or found k 0
    → (at < length entries) × Contains index (prefix_at entries at, at)
stands-at entries index labels found k at of_table is within there =
    let read : get_or found k at ≡ at = get_or_default found k at 0 within ∙ sym there in
    let member : Contains (matching index labels) at =
    subst (λ (xs : List ℕ). Contains xs at) is (k, within, read) in
    let it = matching-from index labels at member in
    let own = of_table (it.0, at) it.1 in
    (own.0, subst (λ (p : List Pattern). Contains index (p, at)) (sym own.1) it.1)

-- one entry more has its prefix in the index
pub noted-more : (entries : List Entry) (index next : List Placed) (first more : List ℕ)
    (at place : ℕ) → AreNoted entries index first → at ≡ length first
    → ((p : Placed) → Contains index p → Contains next p)
    → Contains next (prefix_at entries at, place) → more ≡ first ++ place ∷ []
    → AreNoted entries next more
noted-more entries index next first more at place noted is kept here pushed k within =
    let P : List ℕ → Type 0 = λ xs. k < length xs
    → Contains next (prefix_at entries k, get_or xs k 0) in
    let each : P (first ++ place ∷ []) =
    λ less.
    ⊎_elim (λ before. rw (get_or_append_left first (place ∷ []) 0 k before)
    (kept (prefix_at entries k, get_or first k 0) (noted k before)))
    (λ past.
    let last : length first ≡ k = omega (arith, less, past, length_push first place) in
    let same : k ≡ at = omega (arith, last, is) in
    rw (get_or_push first place 0 k last, same) here)
    (cases_lt k (length first)) in
    subst P (sym pushed) each within

-- marks

pub marks-none : (met : List Bool) (places : List ℕ) → places ≡ [] → Marks met met places
marks-none met places none = record {
  kept = λ at h. h;
  marked = λ at c. absurd (contains_none at (subst (λ (xs : List ℕ). Contains xs at) none c));
  only = λ at h. inl h;
}

pub marks-more : (old met next : List Bool) (places : List ℕ) (k place : ℕ)
    → Marks old met (take k places) → k < length places → place ≡ get_or places k place
    → place < length met → next ≡ set met place true
    → Marks old next (take (k + 1) places)
marks-more old met next places k place marks within is inside made =
    let front : take (k + 1) places ≡ take k places ++ place ∷ [] =
    take_more places k place within ∙ ap (λ n. take k places ++ n ∷ []) (sym is) in
    let keeps : (at : ℕ) → holds met at ≡ true → holds next at ≡ true =
    λ at h. rw made (⊎_elim (λ same. rw same (get_or-set_same met place true false inside))
    (λ other. get_or-set_other met place at true false other ∙ h) (cases_eq at place)) in
    let here : holds next place ≡ true = rw made (get_or-set_same met place true false inside) in
    record {
      kept = λ at h. keeps at (marks.kept at h);
      marked = λ at c.
          ⊎_elim (λ before. keeps at (marks.marked at before))
          (λ (last : place ≡ at). subst (λ n. holds next n ≡ true) last here)
          (Contains-push_cases (take k places) place at (rw front at c));
      only = λ at h.
          ⊎_elim
          (λ same. inr (rw front
          (subst (λ n. Contains (take k places ++ place ∷ []) n) (sym same)
          (Contains-push (take k places) place))))
          (λ other.
          ⊎_elim (λ was. inl was)
          (λ before. inr (rw front (Contains-append_left (take k places) (place ∷ []) at before)))
          (marks.only at (sym (get_or-set_other met place at true false other)
          ∙ (ap (λ (bs : List Bool). holds bs at) (sym made) ∙ h))))
          (cases_eq at place);
    }

-- what matches some leaves

or_group : (a b c : Bool) → (a || (b || c)) ≡ ((a || b) || c)
or_group true b c = refl
or_group false b c = refl

some_leaf-push : (test : Labels → Bool) (ls : List Labels) (l : Labels)
    → some_leaf test (ls ++ l ∷ []) ≡ (some_leaf test ls || test l)
some_leaf-push test [] l = or-false (test l)
some_leaf-push test (k ∷ ks) l = ap (λ (b : Bool). test k || b) (some_leaf-push test ks l)
    ∙ or_group (test k) (some_leaf test ks) (test l)

pub met-none : (index : List Placed) (met : List Bool) → ((at : ℕ) → holds met at ≡ false)
    → AreMet index [] met
met-none index met none = record {
  sound = λ at h. let clash : true ≡ false = sym h ∙ none at in
      absurd (cc);
  whole = λ p c fit. cc;
}

-- one leaf more is looked up
pub met-more : (index : List Placed) (leaves : List (Bor Path)) (k : ℕ) (leaf : Bor Path)
    (labels : Labels) (found : List ℕ) (met next : List Bool)
    → AreMet index (paths_of (take k leaves)) met → k < length leaves
    → leaf ≡ get_or leaves k leaf → labels ≡ leaf.now → found ≡ matching index labels
    → Marks met next found → AreMet index (paths_of (take (k + 1) leaves)) next
met-more index leaves k leaf labels found met next are within is same looked marks =
    let front : paths_of (take (k + 1) leaves) ≡ paths_of (take k leaves) ++ leaf.now ∷ [] =
    rw (take_more leaves k leaf within, ← is, map-append) refl in
    let found_is : found ≡ matching index leaf.now = looked ∙ ap (matching index) same in
    let one : (test : Labels → Bool) → some_leaf test (paths_of (take (k + 1) leaves))
    ≡ (some_leaf test (paths_of (take k leaves)) || test leaf.now) =
    λ test. ap (some_leaf test) front ∙ some_leaf-push test (paths_of (take k leaves)) leaf.now in
    record {
      sound = λ at h.
          ⊎_elim (λ was.
          let it = are.sound at was in (
            it.0,
            it.1,
            one (matches it.0) ∙ or_left
                (some_leaf (matches it.0) (paths_of (take k leaves))) (matches it.0 leaf.now) it.2,
          ))
          (λ new.
          let it = matching-from index leaf.now at
          (subst (λ (xs : List ℕ). Contains xs at) found_is new) in (
            it.0,
            it.1,
            one (matches it.0) ∙ or_right
                (some_leaf (matches it.0) (paths_of (take k leaves))) (matches it.0 leaf.now) it.2,
          ))
          (marks.only at h);
      whole = λ p c fit.
          ⊎_elim (λ before. marks.kept p.1 (are.whole p c before))
          (λ last. marks.marked p.1
          (subst (λ (xs : List ℕ). Contains xs p.1) (sym found_is)
          (matching-to index leaf.now p c last)))
          (or_cases (some_leaf (matches p.0) (paths_of (take k leaves))) (matches p.0 leaf.now)
          (sym (one (matches p.0)) ∙ fit));
    }

pub met-all : (index : List Placed) (leaves : List (Bor Path)) (k : ℕ) (met : List Bool)
    → length leaves ≤ k → AreMet index (paths_of (take k leaves)) met
    → AreMet index (paths_of leaves) met
met-all index leaves k met past are =
    subst (λ (ls : List (Bor Path)). AreMet index (paths_of ls) met) (take_all k leaves past) are

-- where the prefix of an entry is met

met-at : (entries : List Entry) (index : List Placed) (first : List ℕ) (leaves : List Labels)
    (met : List Bool) (at : ℕ) → AreOf entries index → AreNoted entries index first
    → AreMet index leaves met → at < length first
    → holds met (get_or first at 0) ≡ some_leaf (matches (prefix_at entries at)) leaves
met-at entries index first leaves met at of_table noted are within =
    let here = noted at within in
    let place = get_or first at 0 in
    both_true (holds met place) (some_leaf (matches (prefix_at entries at)) leaves)
    (λ h.
    let it = are.sound place h in
    let same : it.0 ≡ prefix_at entries at = sym (of_table (it.0, place) it.1).1
    ∙ (of_table (prefix_at entries at, place) here).1 in
    subst (λ (p : List Pattern). some_leaf (matches p) leaves ≡ true) same it.2)
    (λ h. are.whole (prefix_at entries at, place) here h)

reached-at : (entries : List Entry) (leaves : List Labels) (at : ℕ) (d : Bool)
    → at < length entries → get_or (reached_by leaves (map rule_of entries)) at d
    ≡ some_leaf (matches (prefix_at entries at)) leaves
reached-at [] leaves at d within = absurd (omega arith)
reached-at (e ∷ es) leaves zero d within = refl
reached-at (e ∷ es) leaves (suc at) d within = reached-at es leaves at d (omega arith)

length-reached : (entries : List Entry) (leaves : List Labels)
    → length (reached_by leaves (map rule_of entries)) ≡ length entries
length-reached [] leaves = refl
length-reached (e ∷ es) leaves = ap suc (length-reached es leaves)

-- one entry more of a row
pub row-more : (entries : List Entry) (index : List Placed) (first : List ℕ) (leaves : List Labels)
    (met row next : List Bool) (at place : ℕ) (is_met : Bool) → AreOf entries index
    → AreNoted entries index first
    → length first ≡ length entries → AreMet index leaves met → at < length first
    → place ≡ get_or first at 0 → is_met ≡ holds met place
    → row ≡ take at (reached_by leaves (map rule_of entries)) → next ≡ row ++ is_met ∷ []
    → next ≡ take (at + 1) (reached_by leaves (map rule_of entries))
row-more entries index first leaves met row next at place is_met of_table noted same are within is
    told front pushed =
    let all = reached_by leaves (map rule_of entries) in
    let inside : at < length entries = omega (arith, within, same) in
    let value : is_met ≡ get_or all at is_met =
    told ∙ (ap (holds met) is
    ∙ (met-at entries index first leaves met at of_table noted are within
    ∙ sym (reached-at entries leaves at is_met inside))) in
    pushed ∙ (ap (λ (bs : List Bool). bs ++ is_met ∷ []) front
    ∙ (ap (λ (b : Bool). take at all ++ b ∷ []) value
    ∙ sym (take_more all at is_met (omega (arith, inside, length-reached entries leaves)))))

pub row-all : (entries : List Entry) (leaves : List Labels) (first : List ℕ) (row : List Bool)
    (at : ℕ) → length first ≡ length entries → length first ≤ at
    → row ≡ take at (reached_by leaves (map rule_of entries))
    → row ≡ reached_by leaves (map rule_of entries)
row-all entries leaves first row at same past front =
    front ∙ take_all at (reached_by leaves (map rule_of entries))
    (omega (arith, same, past, length-reached entries leaves))

-- one more of some labels is made of each label of a prefix
pub label-more : {B C : Type 0} (f : PrefixLabel → B) (g : C → B) (made grown : List C)
    (labels : List PrefixLabel) (i : ℕ) (label : PrefixLabel) (x : C) → i < length labels
    → label ≡ get_or labels i label → g x ≡ f label
    → grown ≡ made ++ x ∷ [] → map g made ≡ map f (take i labels)
    → map g grown ≡ map f (take (i + 1) labels)
label-more f g made grown labels i label x within is value pushed stands =
    rw (take_more labels i label within, ← is, pushed, map-append, map-append, stands, value) refl

-- what is found are positions of entries
pub found-within : (entries : List Entry) (index : List Placed) (labels : Labels) (found : List ℕ)
    (most : ℕ) → AreOf entries index → found ≡ matching index labels → most ≡ length entries
    → (k d : ℕ) → k < length found → get_or found k d < most
found-within entries index labels found most of_table is long k d within =
    let at = get_or found k d in
    let there = stands-at entries index labels found k at of_table is within
    (get_or_default found k d 0 within) in
    omega (arith, there.0, long)
