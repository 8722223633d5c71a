-- What a table rewrites a path to, from the positions that its index gives.
use Rattle.std.proofs.Common.{◌≡◌, ℕ, zero, suc, ◌+◌, ◌<◌, ◌≤◌, List, [], ◌∷◌, ◌++◌, Bool, true}
use Rattle.std.proofs.Common.{false, ◌&&◌, Bor, length, map, drop, get_or, Option, Some, None, refl}
use Rattle.std.proofs.Common.{sym, ap, ◌∙◌, arith, append_assoc, add-one, drop-cons}
use Rattle.std.specs.Prelude.{if◌then◌else◌}
use Rattle.std.specs.List.{slice_get, flat_map, All}
use Rattle.std.specs.Option.{option_to_list}
use Rattle.std.specs.Str.{bytes_eq}
use Rattle.std.proofs.lemmas.List.{map-append, append-nil, length-map, drop_all}
use Rattle.std.proofs.lemmas.List.Elements.{All-same, All-push}
use Rattle.std.proofs.lemmas.List.Concat.{flat_map-cons, flat_map-append}
use Rattle.std.proofs.lemmas.Option.{slice_get_within, get_or_from_slice_get}
use Rattle.name_tree.specs.Path.{Labels}
use Rattle.name_tree.specs.Value.{TreeValue}
use Rattle.dtab_index.specs.Index.{Placed, matches, matching}
use Rattle.dtab_table.specs.declared.entry.Entry.{Entry}
use Rattle.dtab_table.specs.declared.prefix.PrefixLabel.{PrefixLabel}
use Rattle.dtab_table.specs.Pattern.{Pattern, pattern_of}
use Rattle.dtab_table.specs.Rules.{rule_of, placed_from}
use Rattle.dtab_table.specs.Dtab.{rest_behind, rewrite, rewrites, rewritten_by, rewritten_by_each}

-- what an entry that matches rewrites the path to
abbrev pub tree_of : Option Entry → Labels → List TreeValue
tree_of None path = []
tree_of (Some e) path = rewritten_by path e ∷ []

-- the trees of the entries at some positions
abbrev pub trees_at : List Entry → Labels → List ℕ → List TreeValue
trees_at all path places = flat_map (λ at. tree_of (slice_get all at) path) places

rest_if : (b : Bool) (ps : List Pattern) (ls : Labels)
    → rest_behind ps ls ≡ (if matches ps ls then Some (drop (length ps) ls) else None)
    → (if b then rest_behind ps ls else None)
    ≡ (if b && matches ps ls then Some (drop (length ps) ls) else None)
rest_if true ps ls is = is
rest_if false ps ls is = refl

-- what follows a prefix that matches, by the number of its labels
pub rest_is : (ps : List Pattern) (path : Labels)
    → rest_behind ps path ≡ (if matches ps path then Some (drop (length ps) path) else None)
rest_is [] path = refl
rest_is (p ∷ ps) [] = refl
rest_is (None ∷ ps) (l ∷ ls) = rest_is ps ls
rest_is (Some m ∷ ps) (l ∷ ls) = rest_if (bytes_eq m l) ps ls (rest_is ps ls)

long_if : (b c : Bool) → (b && c) ≡ true → c ≡ true
long_if true c is = is
long_if false c is = cc

long_enough : (ps : List Pattern) (path : Labels) → matches ps path ≡ true → length ps ≤ length path
long_enough [] path is = omega arith
long_enough (p ∷ ps) [] is = cc
long_enough (None ∷ ps) (l ∷ ls) is = omega (arith, long_enough ps ls is)
long_enough (Some m ∷ ps) (l ∷ ls) is =
    omega (arith, long_enough ps ls (long_if (bytes_eq m l) (matches ps ls) is))

-- a position is an entry's, whose prefix is no longer than the path
abbrev pub IsUsable : List Entry → Labels → ℕ → Type 0
IsUsable all path at = (e : Entry) × (slice_get all at ≡ Some e) × (length e.prefix ≤ length path)

abbrev pub AreUsable : List Entry → Labels → List ℕ → Type 0
AreUsable all path [] = Unit {0}
AreUsable all path (at ∷ ats) = IsUsable all path at × AreUsable all path ats

usable_append : (all : List Entry) (path : Labels) (xs ys : List ℕ) → AreUsable all path xs
    → AreUsable all path ys → AreUsable all path (xs ++ ys)
usable_append all path [] ys front back = back
usable_append all path (x ∷ xs) ys front back = (front.0, usable_append all path xs ys front.1 back)

pub as_many : (labels : List PrefixLabel) (prefix : List Pattern) → map pattern_of labels ≡ prefix
    → length labels ≡ length prefix
as_many labels prefix same = sym (length-map labels pattern_of) ∙ ap length same

module _ (all : List Entry) (path : Labels) where
  last_tree : (n : ℕ) (e : Entry) (b : Bool) → slice_get all n ≡ Some e
      → rest_behind e.prefix path ≡ (if b then Some (drop (length e.prefix) path) else None)
      → trees_at all path (if b then n ∷ [] else []) ≡ option_to_list (rewrite (rule_of e) path)
  last_tree n e true here rest = flat_map-cons (λ at. tree_of (slice_get all at) path) n []
      ∙ (rw (here, rest) refl)
  last_tree n e false here rest = rw rest refl

  last_usable : (n : ℕ) (e : Entry) (b : Bool) → slice_get all n ≡ Some e
      → matches e.prefix path ≡ b → AreUsable all path (if b then n ∷ [] else [])
  last_usable n e true here fit = ((e, here, long_enough e.prefix path fit), tt)
  last_usable n e false here fit = tt

  -- the entries stand in the whole list from n on
  abbrev StandFrom : ℕ → List Entry → Type 0
  StandFrom n es = (k : ℕ) → slice_get all (n + k) ≡ slice_get es k

  first_stands : (n : ℕ) (e : Entry) (es : List Entry) → StandFrom n (e ∷ es)
      → slice_get all n ≡ Some e
  first_stands n e es stand = let same : n + 0 ≡ n = omega arith in rw same at (stand 0)

  rest_stands : (n : ℕ) (e : Entry) (es : List Entry) → StandFrom n (e ∷ es) → StandFrom (n + 1) es
  rest_stands n e es stand k = let same : n + 1 + k ≡ n + suc k = omega arith in
      rw same (stand (suc k))

  rewritten : (n : ℕ) (es : List Entry) → StandFrom n es
      → trees_at all path (matching (placed_from n es) path) ≡ rewrites (map rule_of es) path
  rewritten n [] stand = refl
  rewritten n (e ∷ es) stand =
      let front = rewritten (n + 1) es (rest_stands n e es stand) in
      let back = last_tree n e (matches e.prefix path) (first_stands n e es stand)
      (rest_is e.prefix path) in
      flat_map-append (λ at. tree_of (slice_get all at) path)
      (matching (placed_from (n + 1) es) path) _ ∙ (rw (front, back) refl)

  usable : (n : ℕ) (es : List Entry) → StandFrom n es
      → AreUsable all path (matching (placed_from n es) path)
  usable n [] stand = tt
  usable n (e ∷ es) stand =
      usable_append all path (matching (placed_from (n + 1) es) path) _
      (usable (n + 1) es (rest_stands n e es stand))
      (last_usable n e (matches e.prefix path) (first_stands n e es stand) refl)

  usable_at : (found : List ℕ) (i : ℕ) → i < length found → AreUsable all path found
      → IsUsable all path (get_or found i 0)
  usable_at [] i within are = absurd (omega arith)
  usable_at (at ∷ found) zero within are = are.0
  usable_at (at ∷ found) (suc i) within are = usable_at found i (omega arith) are.1

  module _ (found : List ℕ) (placed : List Placed) (labels : Labels)
      (given : found ≡ matching placed labels) (indexed : placed ≡ placed_from 0 all)
      (lent : labels ≡ path) where
    found_is : found ≡ matching (placed_from 0 all) path
    found_is = given ∙ (ap (λ (ps : List Placed). matching ps labels) indexed
        ∙ ap (matching (placed_from 0 all)) lent)

    stand : StandFrom 0 all
    stand k = let same : 0 + k ≡ k = omega arith in rw same refl

    pub begun : (entries : List (Bor Entry)) → entries ≡ []
        → rewritten_by_each path entries ++ trees_at all path found
        ≡ rewrites (map rule_of all) path
    begun entries none = rw (none, found_is) (rewritten 0 all stand)

    usable_here : (i : ℕ) → i < length found → IsUsable all path (get_or found i 0)
    usable_here i within = usable_at found i within (rw found_is (usable 0 all stand))

    pub in_bounds : (i : ℕ) → i < length found → get_or found i 0 < length all
    in_bounds i within = let here = usable_here i within in
        slice_get_within all (get_or found i 0) here.0 here.1

    pub entry_here : (i : ℕ) (entry : Entry) → i < length found
        → entry ≡ get_or all (get_or found i 0) entry
        → (slice_get all (get_or found i 0) ≡ Some entry) × (length entry.prefix ≤ length path)
    entry_here i entry within is =
        let here = usable_here i within in
        let same : entry ≡ here.0 = is ∙ get_or_from_slice_get all
        (get_or found i 0) here.0 entry here.1 in
        (here.1 ∙ ap Some (sym same), rw same here.2)

  pub one_more : (found : List ℕ) (i : ℕ) (entry : Bor Entry) (entries more : List (Bor Entry))
      (total : List TreeValue) → i < length found → slice_get all (get_or found i 0)
      ≡ Some entry.now
      → more ≡ entries ++ entry ∷ [] → rewritten_by_each path entries
      ++ trees_at all path (drop i found) ≡ total
      → rewritten_by_each path more ++ trees_at all path (drop (i + 1) found) ≡ total
  one_more found i entry entries more total within here pushed stands =
      let first : trees_at all path (drop i found) ≡ rewritten_by path entry.now
      ∷ trees_at all path (drop (i + 1) found) =
      rw (drop-cons found i 0, add-one, flat_map-cons, here) refl in
      rw (pushed, map-append, append_assoc) (rw first at stands)

  pub done : (found : List ℕ) (i : ℕ) (entries : List (Bor Entry)) (total : List TreeValue)
      → length found ≤ i → rewritten_by_each path entries ++ trees_at all path (drop i found)
      ≡ total
      → rewritten_by_each path entries ≡ total
  done found i entries total past stands = let none : drop i found ≡ [] = drop_all i found past in
      sym (append-nil (rewritten_by_each path entries)) ∙ (rw none at stands)

-- one entry more has a prefix no longer than the path
pub short_more : (path : Labels) (entries more : List (Bor Entry)) (entry : Bor Entry)
    → more ≡ entries ++ entry ∷ [] → length entry.now.prefix ≤ length path
    → All (λ e. length e.now.prefix ≤ length path) entries
    → All (λ e. length e.now.prefix ≤ length path) more
short_more path entries more entry pushed short are =
    let P : Bor Entry → Type 0 = λ e. length e.now.prefix ≤ length path in
    All-same P more (entries ++ entry ∷ []) pushed (All-push P entries entry are short)
