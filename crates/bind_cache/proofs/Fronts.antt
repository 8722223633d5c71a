-- What two tables have in common, and what that leaves of a path's rewrites.
use Rattle.std.proofs.Common.{◌≡◌, ℕ, suc, ◌+◌, ◌-◌, ◌<◌, ◌≤◌, Bool, true, false, ◌||◌, List, []}
use Rattle.std.proofs.Common.{◌∷◌, ◌++◌, length, map, take, drop, reverse, get_or, refl, sym, ap}
use Rattle.std.proofs.Common.{◌∙◌, arith, add-one, drop-cons, length-drop}
use mathlib.Core.Logic.{◌⊎◌, inl, inr}
use Rattle.std.specs.Prelude.{if◌then◌else◌, ◌==◌, min}
use Rattle.std.proofs.lemmas.List.{take-append-drop, drop_all, reverse-append, reverse-reverse}
use Rattle.std.proofs.lemmas.List.{length-reverse, length-map, get_or-map, get_or-reverse, drop-map}
use Rattle.std.proofs.lemmas.List.{take_rest}
use Rattle.std.proofs.lemmas.Bool.Decides.{same_from_decides, Decides-eqb}
use Rattle.std.proofs.Math.Seq.{take-append_seam, take-length}
use Rattle.name_tree.specs.Path.{Labels}
use Rattle.dtab_table.specs.Rules.{Rule, rule_of}
use Rattle.dtab_table.specs.Dtab.{rewrites, some_matches}
use Rattle.dtab_table.specs.declared.entry.Entry.{Entry}
use Rattle.dtab_table.proofs.Matches.{unchanged, in_turn}
use Rattle.bind_cache.specs.Same.{same_rule, same_rules}
use Rattle.bind_cache.specs.Changes.{common_front, common_back, without_back, gone, added}
use Rattle.bind_cache.specs.Changes.{is_touched_by_table}
use Rattle.bind_cache.proofs.Same.{same_rule-Decides, same_rules-Decides}

pub front_within : (old new : List Rule) → (common_front old new ≤ length old)
    × (common_front old new ≤ length new)
front_within [] new = (omega arith, omega arith)
front_within (r ∷ rs) [] = (omega arith, omega arith)
front_within (r ∷ rs) (q ∷ qs) =
    let rest = front_within rs qs in
    let less = rest.0 in
    let fewer = rest.1 in
    let P : Bool → Type 0 = λ b. ((if b then suc (common_front rs qs) else 0) ≤ length (r ∷ rs))
    × ((if b then suc (common_front rs qs) else 0) ≤ length (q ∷ qs)) in
    let each : P (same_rule r q) = elim (same_rule r q) as P
    [ true ↦ (omega (arith, less), omega (arith, fewer)) | false ↦ (omega arith, omega arith) ] in
    each

pub fronts_same : (old new : List Rule) → take (common_front old new) old
    ≡ take (common_front old new) new
fronts_same [] new = refl
fronts_same (r ∷ rs) [] = refl
fronts_same (r ∷ rs) (q ∷ qs) =
    let rest = fronts_same rs qs in
    let P : Bool → Type 0 = λ b. same_rule r q ≡ b
    → take (if b then suc (common_front rs qs) else 0) (r ∷ rs)
    ≡ take (if b then suc (common_front rs qs) else 0) (q ∷ qs) in
    let each : P (same_rule r q) =
    elim (same_rule r q) as P [
      | true ↦ (λ e. ap (λ (x : Rule). x ∷ take (common_front rs qs) rs)
          ((same_rule-Decides r q).0 e) ∙ ap (λ (xs : List Rule). q ∷ xs) rest)
      | false ↦ (λ e. refl)
    ] in
    each refl

-- what a list has behind all but so many, by its reverse
back_is : {X : Type 0} (xs : List X) (n : ℕ) → n ≤ length xs
    → drop (length xs - n) xs ≡ reverse (take n (reverse xs))
back_is xs n within =
    let m = length xs - n in
    let parts : reverse xs ≡ reverse (drop m xs) ++ reverse (take m xs) =
    ap reverse (sym (take-append-drop m xs)) ∙ reverse-append (take m xs) (drop m xs) in
    let many : length (reverse (drop m xs)) ≡ n = length-reverse (drop m xs)
    ∙ omega (arith, length-drop m xs) in
    let front : take n (reverse xs) ≡ reverse (drop m xs) =
    ap (take n) parts ∙ (ap (λ k. take k (reverse (drop m xs) ++ reverse (take m xs))) (sym many)
    ∙ take-append_seam (reverse (drop m xs)) (reverse (take m xs))) in
    sym (ap reverse front ∙ reverse-reverse (drop m xs))

-- the two lists end with the same rules, behind what is left of each
record Split (old new : List Rule) : Type 0 where
  front : List Rule
  back : List Rule
  old_is : old ≡ front ++ (gone old new ++ back)
  new_is : new ≡ front ++ (added old new ++ back)

split : (old new : List Rule) → Split old new
split old new =
    let f = common_front old new in
    let o = drop f old in
    let n = drop f new in
    let b = common_back o n in
    let within = front_within (reverse o) (reverse n) in
    let old_within : b ≤ length o = omega (arith, within.0, length-reverse o) in
    let new_within : b ≤ length n = omega (arith, within.1, length-reverse n) in
    let ends : drop (length n - b) n ≡ drop (length o - b) o =
    back_is n b new_within
    ∙ (ap reverse (sym (fronts_same (reverse o) (reverse n))) ∙ sym (back_is o b old_within)) in
    record {
      front = take f old;
      back = drop (length o - b) o;
      old_is = sym (take-append-drop f old)
          ∙ ap (λ (xs : List Rule). take f old ++ xs) (sym (take-append-drop (length o - b) o));
      new_is = sym (take-append-drop f new)
          ∙ (ap (λ (xs : List Rule). xs ++ n) (sym (fronts_same old new))
          ∙ ap (λ (xs : List Rule). take f old ++ xs)
          (sym (take-append-drop (length n - b) n)
          ∙ ap (λ (xs : List Rule). take (length n - b) n ++ xs) ends));
    }

neither : (b c : Bool) → (b || c) ≡ false → (b ≡ false) × (c ≡ false)
neither true c is = absurd (cc)
neither false c is = (refl, is)

-- a path that no changed rule matches is rewritten to the same
pub untouched_rewrites : (old new : List Rule) (path : Labels)
    → is_touched_by_table old new path ≡ false → rewrites old path ≡ rewrites new path
untouched_rewrites old new path h =
    let parts = neither (some_matches (gone old new) path) (some_matches (added old new) path) h in
    let s = split old new in
    ap (λ (rs : List Rule). rewrites rs path) s.old_is
    ∙ (unchanged s.front (gone old new) (added old new) s.back path parts.0 parts.1
    ∙ sym (ap (λ (rs : List Rule). rewrites rs path) s.new_is))

-- so it is with other rules behind
pub untouched_in_front : (old new behind local : List Rule) (path : Labels)
    → is_touched_by_table old new path ≡ false
    → rewrites ((old ++ behind) ++ local) path ≡ rewrites ((new ++ behind) ++ local) path
untouched_in_front old new behind local path h =
    rw (
      in_turn (old ++ behind) local path,
      in_turn old behind path,
      in_turn (new ++ behind) local path,
      in_turn new behind path,
      untouched_rewrites old new path h,
    ) refl

min_below : (n m at : ℕ) → min n m ≤ at → (n ≤ at) ⊎ (m ≤ at)
min_below n m at h = grind arith

-- lists that are compared from the front
module _ (A B : List Rule) where
  abbrev pub CommonFrom : ℕ → Type 0
  CommonFrom at = at + common_front (drop at A) (drop at B) ≡ common_front A B

  module _ (at : ℕ) (r q : Rule) (old_within : at < length A) (new_within : at < length B)
      (old_is : r ≡ get_or A at r) (new_is : q ≡ get_or B at q) (stands : CommonFrom at) where
    here : at + (if same_rule r q then suc (common_front (drop (at + 1) A) (drop (at + 1) B)) else
        0) ≡ common_front A B
    here =
        let first : drop at A ≡ r ∷ drop (at + 1) A =
        rw (add-one) (drop-cons A at r old_within
        ∙ ap (λ (x : Rule). x ∷ drop (suc at) A) (sym old_is)) in
        let second : drop at B ≡ q ∷ drop (at + 1) B =
        rw (add-one) (drop-cons B at q new_within
        ∙ ap (λ (x : Rule). x ∷ drop (suc at) B) (sym new_is)) in
        sym (ap (λ n. at + n) (ap (λ (xs : List Rule). common_front xs (drop at B)) first
        ∙ ap (λ (xs : List Rule). common_front (r ∷ drop (at + 1) A) xs) second)) ∙ stands

    pub one_more : r ≡ q → CommonFrom (at + 1)
    one_more same =
        let yes : same_rule r q ≡ true = (same_rule-Decides r q).1 same in
        let n = common_front (drop (at + 1) A) (drop (at + 1) B) in
        let next : at + suc n ≡ common_front A B =
        ap (λ (b : Bool). at + (if b then suc n else 0)) (sym yes) ∙ here in
        omega (arith, next)

    pub other : (r ≡ q → ⊥) → at ≡ common_front A B
    other differ =
        let P : Bool → Type 0 = λ b. same_rule r q ≡ b
        → at + (if b then suc (common_front (drop (at + 1) A) (drop (at + 1) B)) else 0)
        ≡ common_front A B → at ≡ common_front A B in
        let each : P (same_rule r q) =
        elim (same_rule r q) as P [
          | true ↦ (λ e h. absurd (differ ((same_rule-Decides r q).0 e)))
          | false ↦
              (λ e h. omega (arith, h))
        ] in
        each refl here

  none_behind : (xs : List Rule) → common_front xs [] ≡ 0
  none_behind [] = refl
  none_behind (x ∷ xs) = refl

  pub ended : (at : ℕ) → min (length A) (length B) ≤ at → CommonFrom at → at ≡ common_front A B
  ended at past stands =
      let all : common_front (drop at A) (drop at B) ≡ 0 → at ≡ common_front A B =
      λ e. omega (arith, stands, e) in
      let short : (length A ≤ at) ⊎ (length B ≤ at) = min_below (length A) (length B) at past in
      elim short [
        | inl le ↦ all (ap (λ (xs : List Rule). common_front xs (drop at B)) (drop_all at A le))
        | inr le ↦ all (ap (common_front (drop at A)) (drop_all at B le) ∙ none_behind (drop at A))
      ]

-- the rules of entries, from the front and from the back
pub entry_in : (es : List Entry) (k : ℕ) (e : Entry) → k < length es → e ≡ get_or es k e
    → rule_of e ≡ get_or (map rule_of es) k (rule_of e)
entry_in es k e within is = ap rule_of is ∙ sym (get_or-map rule_of es k e (rule_of e) within)

pub entry_back : (es : List Entry) (k at : ℕ) (e : Entry) → at < length es → k ≡ length es - 1 - at
    → e ≡ get_or es k e → rule_of e ≡ get_or (reverse (map rule_of es)) at (rule_of e)
entry_back es k at e within place is =
    let size = length-map es rule_of in
    let same_place : k ≡ length (map rule_of es) - 1 - at = omega (arith, size, place) in
    entry_in es k e (omega arith) is
    ∙ (ap (λ n. get_or (map rule_of es) n (rule_of e)) same_place
    ∙ sym (get_or-reverse (map rule_of es) at (rule_of e) (omega (arith, size))))

-- rules from one place to before another, counted from the ends
pub cut_is : (rules : List Rule) (front back end : ℕ) → end ≡ length rules - back
    → take (end - front) (drop front rules) ≡ without_back back (drop front rules)
cut_is rules front back end is = ap (λ n. take n (drop front rules))
    (omega (arith, length-drop front rules, is))

common_itself : (rs : List Rule) → common_front rs rs ≡ length rs
common_itself [] = refl
common_itself (r ∷ rs) = ap (λ (b : Bool). if b then suc (common_front rs rs) else 0)
    ((same_rule-Decides r r).1 refl) ∙ ap suc (common_itself rs)

-- lists are the same where they have one length and have all in common
pub other_length : (one other : List Rule) → (length one ≡ length other → ⊥)
    → false ≡ same_rules one other
other_length one other differ =
    let P : Bool → Type 0 = λ b. same_rules one other ≡ b → false ≡ b in
    let each : P (same_rules one other) =
    elim (same_rules one other) as P [
      | true ↦ (λ e. absurd (differ (ap length ((same_rules-Decides one other).0 e))))
      | false ↦
          (λ e. refl)
    ] in
    each refl

pub all_common : (one other : List Rule) (count size : ℕ) → count ≡ common_front one other
    → size ≡ length one → length one ≡ length other → (count == size) ≡ same_rules one other
all_common one other count size is full as_many =
    same_from_decides (count == size) (same_rules one other) (
      λ yes. let all : common_front one other ≡ length one =
          sym is ∙ ((Decides-eqb count size).0 yes ∙ full) in
          sym (take-length one)
          ∙ (ap (λ n. take n one) (sym all)
          ∙ (fronts_same one other ∙ (ap (λ n. take n other) (all ∙ as_many) ∙ take-length other))),
      λ same. (Decides-eqb count size).1 (is
          ∙ (ap (common_front one) (sym same) ∙ (common_itself one ∙ sym full))),
    ) (same_rules-Decides one other)

-- what changed, from the entries of two tables
rest_is : (es : List Entry) (rules : List Rule) (front : ℕ) → map rule_of es ≡ rules
    → map rule_of (take (length es - front) (drop front es)) ≡ drop front rules
rest_is es rules front is = ap (map rule_of) (take_rest es front)
    ∙ (sym (drop-map rule_of front es) ∙ ap (drop front) is)

module _ (old new : List Entry) (olds news : List Rule) (front back : ℕ)
    (old_is : map rule_of old ≡ olds) (new_is : map rule_of new ≡ news)
    (front_is : front ≡ common_front (map rule_of old) (map rule_of new))
    (back_is_so : back ≡ common_back (map rule_of (take (length old - front) (drop front old)))
    (map rule_of (take (length new - front) (drop front new)))) where
  at_front : front ≡ common_front olds news
  at_front = front_is ∙ (ap (λ (rs : List Rule). common_front rs (map rule_of new)) old_is
      ∙ ap (common_front olds) new_is)

  at_back : back ≡ common_back (drop front olds) (drop front news)
  at_back = back_is_so ∙
      (ap (λ (rs : List Rule). common_back rs
      (map rule_of (take (length new - front) (drop front new)))) (rest_is old olds front old_is)
      ∙ ap (common_back (drop front olds)) (rest_is new news front new_is))

  pub gone_is : (size : ℕ) → size ≡ length olds → take ((size - back) - front) (drop front olds)
      ≡ gone olds news
  gone_is size all =
      cut_is olds front back (size - back) (ap (λ n. n - back) all)
      ∙ (ap (λ n. without_back n (drop front olds)) at_back
      ∙ ap (λ f. without_back (common_back (drop f olds) (drop f news)) (drop f olds)) at_front)

  pub added_is : (size : ℕ) → size ≡ length news → take ((size - back) - front) (drop front news)
      ≡ added olds news
  added_is size all =
      cut_is news front back (size - back) (ap (λ n. n - back) all)
      ∙ (ap (λ n. without_back n (drop front news)) at_back
      ∙ ap (λ f. without_back (common_back (drop f olds) (drop f news)) (drop f news)) at_front)
