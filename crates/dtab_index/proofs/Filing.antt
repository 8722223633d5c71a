-- The prefixes of a part: one that is put behind the others, and those that match a path.
use Rattle.std.proofs.Common.{◌≡◌, ◌≢◌, ⊎_elim, ℕ, zero, suc, ◌+◌, ◌-◌, ◌<◌, ◌≤◌, List, [], ◌∷◌}
use Rattle.std.proofs.Common.{◌++◌, Bool, true, false, ◌&&◌, length, set, take, Option, Some, None}
use Rattle.std.proofs.Common.{refl, sym, ap, subst, ◌∙◌, arith, append_assoc, append-nil}
use Rattle.std.specs.List.{slice_get, list_any}
use Rattle.std.specs.Prelude.{◌||◌, if◌then◌else◌, Result, Ok, Err, OnErr}
use Rattle.std.proofs.lemmas.List.{length-append, set_at, take_all}
use Rattle.std.proofs.lemmas.List.Folds.{list_any-append}
use Rattle.std.proofs.lemmas.Option.{none-some, same_Some, slice_get_within, slice_get_past}
use Rattle.dtab_index.specs.Bits.{has}
use Rattle.dtab_index.specs.Columns.{passes, AreSaid, KeepSaid}
use Rattle.dtab_index.specs.Prefix.{patterns_of}
use Rattle.dtab_index.specs.Index.{Label, Placed, matches, matching, matches_there}
use Rattle.dtab_index.specs.Index.{some_matches_there}
use Rattle.dtab_index.specs.Listed.{listed}
use Rattle.dtab_index.specs.Part.{placed_of, placed_in, position_of, positions_at, is_between}
use Rattle.dtab_index.specs.Part.{IsKept}
use Rattle.dtab_index.specs.declared.column.Column.{Column}
use Rattle.dtab_index.specs.declared.part.Entry.{Entry}
use Rattle.dtab_index.proofs.Known.{at_push, passes_matches}
use Rattle.dtab_index.proofs.Listed.{listed-empty, listed-none}
use Rattle.dtab_index.proofs.WordBits.{no_place}

-- ---- a prefix that is put behind the others
pub placed-none : (es : List (Option Entry)) → placed_in (es ++ None ∷ []) ≡ placed_in es
placed-none [] = refl
placed-none (None ∷ es) = placed-none es
placed-none (Some e ∷ es) = ap (λ (ps : List Placed). placed_of e ∷ ps) (placed-none es)

placed-some : (es : List (Option Entry)) (e : Entry)
    → placed_in (es ++ Some e ∷ []) ≡ placed_in es ++ placed_of e ∷ []
placed-some [] e = refl
placed-some (None ∷ es) e = placed-some es e
placed-some (Some f ∷ es) e = ap (λ (ps : List Placed). placed_of f ∷ ps) (placed-some es e)

apart : (k n : ℕ) → k < 1024 → n < 1024 → (k ≡ n → ⊥) → 1023 - k ≢ 1023 - n
apart k n lk ln ne e = ne (omega (arith, e))

pub kept_none : (es : List (Option Entry)) (old now : List Column) → IsKept es old
    → length es < 1024
    → ((other : ℕ) → other ≢ 1023 - length es → KeepSaid old now other)
    → IsKept (es ++ None ∷ []) now
kept_none es old now kept room stands = record {
  few = omega (arith, room, length-append es (None ∷ []));
  said = λ k e is.
      ⊎_elim
      (λ (h : slice_get es k ≡ Some (Some e)).
      let within = slice_get_within es k (Some e) h in
      let ne : 1023 - k ≢ 1023 - length es =
      apart k (length es) (omega (arith, within, room)) room
      (λ (same : k ≡ length es). omega (arith, same, within)) in
      (stands (1023 - k) ne).said (patterns_of e.prefix.value.items) (kept.said k e h))
      (λ (h : (k ≡ length es) × (None ≡ Some e)). absurd (none-some e h.1))
      (at_push es None k (Some e) is);
  blank = λ k past low.
      let behind : length es < k = omega (arith, past, length-append es (None ∷ [])) in
      let ne : 1023 - k ≢ 1023 - length es =
      apart k (length es) low room (λ (same : k ≡ length es). omega (arith, same, behind)) in
      (stands (1023 - k) ne).blank (kept.blank k (omega (arith, behind)) low);
}

some_kept : (es : List (Option Entry)) (now : List Column) (e : Entry)
    → IsKept (es ++ None ∷ []) now → AreSaid now (patterns_of e.prefix.value.items)
    (1023 - length es) → IsKept (es ++ Some e ∷ []) now
some_kept es now e kept said = record {
  few = omega (arith, kept.few, length-append es (None ∷ []), length-append es (Some e ∷ []));
  said = λ k f is.
      ⊎_elim
      (λ (h : slice_get es k ≡ Some (Some f)). kept.said k f (front es None k (Some f) h))
      (λ (h : (k ≡ length es) × (Some e ≡ Some f)).
      let same : e ≡ f = same_Some e f h.1 in
      let P : ℕ → Type 0 = λ n. AreSaid now (patterns_of f.prefix.value.items) (1023 - n) in
      let Q : Entry → Type 0 = λ g. AreSaid now (patterns_of g.prefix.value.items)
      (1023 - length es) in
      subst P (sym h.0) (subst Q same said))
      (at_push es (Some e) k (Some f) is);
  blank = λ k past low.
      kept.blank k (omega (
        arith,
        past,
        length-append es (None ∷ []),
        length-append es (Some e ∷ []),
      )) low;
}
  where
    front : {A : Type 0} (xs : List A) (x : A) (k : ℕ) (y : A) → slice_get xs k ≡ Some y
        → slice_get (xs ++ x ∷ []) k ≡ Some y
    front [] x k y is = absurd (none-some y is)
    front (z ∷ xs) x zero y is = is
    front (z ∷ xs) x (suc k) y is = front xs x k y is

module _ (es middle : List (Option Entry)) (pushed : middle ≡ es ++ None ∷ []) where
  pub placed_failed : placed_in middle ≡ placed_in es
  placed_failed = ap placed_in pushed ∙ placed-none es

  ended : (e : Entry) (at : ℕ) → at ≡ length es → set middle at (Some e) ≡ es ++ Some e ∷ []
  ended e at last = (λ i. set (pushed i) (last i) (Some e))
      ∙ set_at es None [] (Some e) (length es) refl

  pub placed_added : (e : Entry) (at : ℕ) → at ≡ length es
      → placed_in (set middle at (Some e)) ≡ placed_in es ++ placed_of e ∷ []
  placed_added e at last = ap placed_in (ended e at last) ∙ placed-some es e

  module _ (old now : List Column) (kept : IsKept es old) (room : length es < 1024)
      (stands : (other : ℕ) → other ≢ 1023 - length es → KeepSaid old now other) where
    pub kept_failed : IsKept middle now
    kept_failed = rw pushed (kept_none es old now kept room stands)

    pub kept_added : (e : Entry) (at : ℕ) → at ≡ length es
        → AreSaid now (patterns_of e.prefix.value.items) (1023 - at)
        → IsKept (set middle at (Some e)) now
    kept_added e at last said =
        let P : ℕ → Type 0 = λ n. AreSaid now (patterns_of e.prefix.value.items) (1023 - n) in
        rw (ended e at last) (some_kept es now e (kept_none es old now kept room stands)
        (subst P last said))

-- what holds is so behind an `Err`
pub on_err : {A E : Type 0} (r : Result A E) (P : Type 0) → P → OnErr r P
on_err (Ok x) P p = tt
on_err (Err e) P p = p

-- ---- the prefixes that match
pub matching-append : (ps qs : List Placed) (path : List Label)
    → matching (ps ++ qs) path ≡ matching qs path ++ matching ps path
matching-append [] qs path = sym (append-nil (matching qs path))
matching-append (p ∷ ps) qs path =
    let here : List ℕ = if matches p.0 path then p.1 ∷ [] else [] in
    ap (λ xs. xs ++ here) (matching-append ps qs path)
    ∙ append_assoc (matching qs path) (matching ps path) here

abbrev placed_at : Option (Option Entry) → List Placed
placed_at None = []
placed_at (Some None) = []
placed_at (Some (Some e)) = placed_of e ∷ []

placed-take : (es : List (Option Entry)) (m : ℕ) → placed_in (take (suc m) es)
    ≡ placed_in (take m es) ++ placed_at (slice_get es m)
placed-take [] zero = refl
placed-take [] (suc m) = refl
placed-take (None ∷ es) zero = refl
placed-take (Some e ∷ es) zero = refl
placed-take (None ∷ es) (suc m) = placed-take es m
placed-take (Some e ∷ es) (suc m) = ap (λ (ps : List Placed). placed_of e ∷ ps) (placed-take es m)

no_choice : (b : Bool) → (let none : List ℕ = [] in if b then none else none) ≡ []
no_choice true = refl
no_choice false = refl

one_found : (o : Option (Option Entry)) (test : Bool) (path : List Label)
    → ((e : Entry) → o ≡ Some (Some e) → test ≡ matches (patterns_of e.prefix.value.items) path)
    → (if test then position_of o else []) ≡ matching (placed_at o) path
one_found None test path is = no_choice test
one_found (Some None) test path is = no_choice test
one_found (Some (Some e)) test path is = ap (λ b. if b then e.at ∷ [] else []) (is e refl)

module _ (es : List (Option Entry)) (test : ℕ → Bool) (path : List Label)
    (is : (k : ℕ) (e : Entry) → slice_get es k ≡ Some (Some e)
    → test (1023 - k) ≡ matches (patterns_of e.prefix.value.items) path) where
  found_below : (n : ℕ) → n ≤ 1024 → listed test (positions_at es) n (1024 - n)
      ≡ matching (placed_in (take n es)) path
  unfolding listed
  found_below zero few = refl
  found_below (suc m) few =
      let place : 1024 - suc m ≡ 1023 - m = omega arith in
      let back : 1023 - (1023 - m) ≡ m = omega arith in
      let next : (1023 - m) + 1 ≡ 1024 - m = omega arith in
      let here : (if test (1023 - m) then positions_at es (1023 - m) else [])
      ≡ matching (placed_at (slice_get es m)) path =
      ap (λ k. if test (1023 - m) then position_of (slice_get es k) else []) back
      ∙ one_found (slice_get es m) (test (1023 - m)) path (is m) in
      ap (λ k. (if test k then positions_at es k else [])
      ++ listed test (positions_at es) m (k + 1)) place
      ∙ ((λ i. here i ++ listed test (positions_at es) m (next i))
      ∙ (ap (λ xs. matching (placed_at (slice_get es m)) path ++ xs) (found_below m (omega arith))
      ∙ (sym (matching-append (placed_in (take m es)) (placed_at (slice_get es m)) path)
      ∙ ap (λ (ps : List Placed). matching ps path) (sym (placed-take es m)))))

  all_found : length es ≤ 1024 → listed test (positions_at es) 1024 0 ≡ matching (placed_in es) path
  all_found few = found_below 1024 (omega arith)
      ∙ ap (λ (xs : List (Option Entry)). matching (placed_in xs) path) (take_all 1024 es few)

pub kept_found : (es : List (Option Entry)) (cs : List Column) (first : ℕ) (words : List ℕ)
    (path : List Label) → IsKept es cs → first + length es ≤ 1024
    → ((place : ℕ) → first ≤ place → place < 1024 → has words place ≡ passes cs path place)
    → listed (has words) (positions_at es) 1024 0 ≡ matching (placed_in es) path
kept_found es cs first words path kept lowest left =
    all_found es (has words) path
    (λ k e is.
    let within = slice_get_within es k (Some e) is in
    left (1023 - k) (omega (arith, within, lowest)) (omega arith)
    ∙ passes_matches (1023 - k) cs (patterns_of e.prefix.value.items) path (kept.said k e is))
    kept.few

-- none matches where none is left
pub kept_none_found : (es : List (Option Entry)) (cs : List Column) (first : ℕ) (path : List Label)
    → IsKept es cs → first + length es ≤ 1024
    → ((place : ℕ) → first ≤ place → place < 1024 → passes cs path place ≡ false)
    → matching (placed_in es) path ≡ []
kept_none_found es cs first path kept lowest none =
    sym (kept_found es cs first [] path kept lowest
    (λ place past few. no_place [] place refl ∙ sym (none place past few)))
    ∙ listed-none (has []) (positions_at es) 1024 0 (λ k lt. no_place [] (0 + k) refl)

-- no prefix has a place before theirs
pub none_before : (es : List (Option Entry)) (test : ℕ → Bool) (n : ℕ) → n + length es ≤ 1024
    → listed test (positions_at es) n 0 ≡ []
none_before es test n lowest =
    listed-empty test (positions_at es) n 0
    (λ k lt. ap position_of (slice_get_past es (1023 - (0 + k)) (omega (arith, lt, lowest))))

-- ---- whether one of them is at some positions
either : (x y : Bool) → (x || y) ≡ (y || x)
either true true = refl
either true false = refl
either false true = refl
either false false = refl

one_between : (f : ℕ → Bool) (at : ℕ) (b : Bool) → (f at && b)
    ≡ list_any f (if b then at ∷ [] else [])
one_between f at true = one (f at)
  where
    one : (x : Bool) → (x && true) ≡ (x || false)
    one true = refl
    one false = refl
one_between f at false = none (f at)
  where
    none : (x : Bool) → (x && false) ≡ false
    none true = refl
    none false = refl

pub some_found : (from to : ℕ) (ps : List Placed) (path : List Label)
    → some_matches_there from to ps path ≡ list_any (is_between from to) (matching ps path)
some_found from to [] path = refl
some_found from to (p ∷ ps) path =
    let here : List ℕ = if matches p.0 path then p.1 ∷ [] else [] in
    (λ i. one_between (is_between from to) p.1 (matches p.0 path) i || some_found from to ps path i)
    ∙ (either (list_any (is_between from to) here)
    (list_any (is_between from to) (matching ps path))
    ∙ sym (list_any-append (is_between from to) (matching ps path) here))

pub some-append : (from to : ℕ) (ps qs : List Placed) (path : List Label)
    → some_matches_there from to (ps ++ qs) path
    ≡ (some_matches_there from to ps path || some_matches_there from to qs path)
some-append from to [] qs path = refl
some-append from to (p ∷ ps) qs path =
    ap (λ b. matches_there from to path p || b) (some-append from to ps qs path)
    ∙ sym (or_assoc (matches_there from to path p) (some_matches_there from to ps path)
    (some_matches_there from to qs path))
  where
    or_assoc : (x y z : Bool) → ((x || y) || z) ≡ (x || (y || z))
    or_assoc true y z = refl
    or_assoc false y z = refl
