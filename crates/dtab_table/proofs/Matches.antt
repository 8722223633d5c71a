-- Which entries match a path, and tables that are looked up in turn.
use Rattle.std.proofs.Common.{◌≡◌, ℕ, ◌+◌, ◌<◌, ◌≤◌, List, [], ◌∷◌, ◌++◌, Bool, true, false, ◌&&◌}
use Rattle.std.proofs.Common.{length, map, take, drop, get_or, Some, refl, sym, ap, ◌∙◌, arith}
use Rattle.std.proofs.Common.{append_assoc, add-one, drop-cons}
use Rattle.std.specs.Prelude.{◌||◌, ◌↔◌, IsTrue}
use Rattle.std.specs.List.{slice_get}
use Rattle.std.specs.Option.{option_to_list}
use Rattle.std.proofs.lemmas.List.{append-nil, length-map, drop_all, take_all, take_more}
use Rattle.std.proofs.lemmas.List.{map-append, take-map, drop-map}
use Rattle.std.proofs.lemmas.Option.{get_or_from_slice_get}
use Rattle.name_tree.specs.Path.{Label, Labels}
use Rattle.dtab_index.specs.Index.{fits, matches}
use Rattle.dtab_index.proofs.Matches.{long_enough}
use Rattle.dtab_table.specs.declared.entry.Entry.{Entry}
use Rattle.dtab_table.specs.declared.prefix.PrefixLabel.{PrefixLabel}
use Rattle.dtab_table.specs.Pattern.{Pattern, pattern_of, IsFilled, AreFilled}
use Rattle.dtab_table.specs.Rules.{Rule, rule_of}
use Rattle.dtab_table.specs.Dtab.{rewrite, rewrites, some_matches}
use Rattle.dtab_table.proofs.Rewriting.{rest_is}

refuted : (b : Bool) → (b ≡ true → ⊥) → false ≡ b
refuted true never = absurd (never refl)
refuted false never = refl

-- a prefix and a path, label by label
module _ (labels : List PrefixLabel) (path : Labels) where
  abbrev pub AgreeFrom : ℕ → Type 0
  AgreeFrom at = matches (map pattern_of labels) path
      ≡ matches (map pattern_of (drop at labels)) (drop at path)

  pub too_few : length path < length labels → false ≡ matches (map pattern_of labels) path
  too_few less = refuted (matches (map pattern_of labels) path)
      (λ fit. let long = long_enough (map pattern_of labels) path fit in
      omega (arith, long, length-map labels pattern_of))

  module _ (at : ℕ) (p : PrefixLabel) (l : Label) (agree : AgreeFrom at)
      (within : at < length labels) (long : length labels ≤ length path)
      (is : p ≡ get_or labels at p) (has : slice_get path at ≡ Some l) where
    cut : matches (map pattern_of labels) path ≡ fits (pattern_of p) l
        && matches (map pattern_of (drop (at + 1) labels)) (drop (at + 1) path)
    cut =
        let there : at < length path = omega arith in
        agree ∙ (rw (
          drop-cons labels at p,
          drop-cons path at [],
          ← is,
          get_or_from_slice_get path at l [] has,
          add-one,
        ) refl)

    pub label_fits : fits (pattern_of p) l ≡ true → AgreeFrom (at + 1)
    label_fits fit = cut ∙ (rw fit refl)

    pub label_differs : fits (pattern_of p) l ≡ false → false ≡ matches (map pattern_of labels) path
    label_differs other = sym (cut ∙ (rw other refl))

  pub all_fit : (at : ℕ) → AgreeFrom at → length labels ≤ at
      → true ≡ matches (map pattern_of labels) path
  all_fit at agree past = let none : drop at labels ≡ [] = drop_all at labels past in
      sym (agree ∙ (rw none refl))

-- a prefix with one label more has a byte in each
pub filled_more : (ps : List Pattern) (p : Pattern) → AreFilled ps → IsFilled p
    → AreFilled (ps ++ p ∷ [])
filled_more [] p all more = (more, tt)
filled_more (q ∷ ps) p all more = (all.0, filled_more ps p all.1 more)

-- one label more is copied
pub label_copied : (made more xs : List PrefixLabel) (k : ℕ) (p copy : PrefixLabel) → k < length xs
    → p ≡ get_or xs k p → pattern_of copy ≡ pattern_of p → more ≡ made ++ copy ∷ []
    → map pattern_of made ≡ map pattern_of (take k xs)
    → map pattern_of more ≡ map pattern_of (take (k + 1) xs)
label_copied made more xs k p copy within is same pushed stands =
    rw (pushed, take_more xs k p within, ← is, map-append, map-append, stands)
    (ap (λ (q : Pattern). map pattern_of (take k xs) ++ q ∷ []) same)

-- all labels, by what stands behind so many of them
pub all_labels : (xs inside : List PrefixLabel) (k : ℕ) (ps : List Pattern) → length xs ≤ k
    → xs ≡ inside → map pattern_of inside ≡ ps → map pattern_of (take k xs) ≡ ps
all_labels xs inside k ps past is seen = ap (map pattern_of) (take_all k xs past ∙ is) ∙ seen

-- prefixes are the same where their labels are
pub same_prefixes : (b : Bool) (xs ys : List PrefixLabel) (ps qs : List Pattern)
    → map pattern_of xs ≡ ps → map pattern_of ys ≡ qs
    → IsTrue b ↔ (map pattern_of xs ≡ map pattern_of ys) → IsTrue b ↔ (ps ≡ qs)
same_prefixes b xs ys ps qs left right tells =
    (λ yes. sym left ∙ (tells.0 yes ∙ right), λ same. tells.1 (left ∙ (same ∙ sym right)))

-- entries, one by one
module _ (es : List Entry) (path : Labels) where
  abbrev pub MatchFrom : ℕ → Type 0
  MatchFrom at = some_matches (map rule_of es) path ≡ some_matches (map rule_of (drop at es)) path

  module _ (at : ℕ) (e : Entry) (stands : MatchFrom at) (within : at < length es)
      (is : e ≡ get_or es at e) where
    entry_cut : some_matches (map rule_of es) path ≡ matches e.prefix path
        || some_matches (map rule_of (drop (at + 1) es)) path
    entry_cut = stands ∙ (rw (drop-cons es at e, ← is, add-one) refl)

    pub entry_matches : matches e.prefix path ≡ true → true ≡ some_matches (map rule_of es) path
    entry_matches fit = sym (entry_cut ∙ (rw fit refl))

    pub entry_passed : matches e.prefix path ≡ false → MatchFrom (at + 1)
    entry_passed other = entry_cut ∙ (rw other refl)

  pub no_entry_matches : (at : ℕ) → MatchFrom at → length es ≤ at
      → false ≡ some_matches (map rule_of es) path
  no_entry_matches at stands past = let none : drop at es ≡ [] = drop_all at es past in
      sym (stands ∙ (rw none refl))

-- entries from one place to before another
pub part_of : (es : List Entry) (from count : ℕ) → map rule_of (take count (drop from es))
    ≡ take count (drop from (map rule_of es))
part_of es from count = sym (take-map rule_of count (drop from es))
    ∙ ap (take count) (sym (drop-map rule_of from es))

-- one entry more is copied
pub copied_more : (out more old : List Entry) (es : List Entry) (k : ℕ) (e copy : Entry)
    → k < length es → e ≡ get_or es k e → rule_of copy ≡ rule_of e → more ≡ out ++ copy ∷ []
    → map rule_of out ≡ map rule_of old ++ map rule_of (take k es)
    → map rule_of more ≡ map rule_of old ++ map rule_of (take (k + 1) es)
copied_more out more old es k e copy within is same pushed stands =
    rw (pushed, take_more es k e within, ← is, map-append, map-append, stands)
    (append_assoc (map rule_of old) (map rule_of (take k es)) (rule_of copy ∷ [])
    ∙ ap (λ (r : Rule). map rule_of old ++ (map rule_of (take k es) ++ r ∷ [])) same)

-- a table of two tables' rules is looked up in the second, and then in the first
pub in_turn : (first second : List Rule) (path : Labels)
    → rewrites (first ++ second) path ≡ rewrites second path ++ rewrites first path
in_turn [] second path = sym (append-nil (rewrites second path))
in_turn (r ∷ rs) second path =
    ap (λ ts. ts ++ option_to_list (rewrite r path)) (in_turn rs second path)
    ∙ append_assoc (rewrites second path) (rewrites rs path) (option_to_list (rewrite r path))

neither : (b c : Bool) → (b || c) ≡ false → (b ≡ false) × (c ≡ false)
neither true c is = absurd (cc)
neither false c is = (refl, is)

-- what no rule matches is rewritten to nothing
pub nothing : (rules : List Rule) (path : Labels) → some_matches rules path ≡ false
    → rewrites rules path ≡ []
nothing [] path is = refl
nothing (r ∷ rs) path is =
    let both = neither (matches r.prefix path) (some_matches rs path) is in
    rw (nothing rs path both.1, rest_is r.prefix path, both.0) refl

-- tables that differ only in rules that don't match rewrite a path to the same
pub unchanged : (front old new back : List Rule) (path : Labels) → some_matches old path ≡ false
    → some_matches new path ≡ false → rewrites (front ++ (old ++ back)) path
    ≡ rewrites (front ++ (new ++ back)) path
unchanged front old new back path gone added =
    rw (
      in_turn front (old ++ back) path,
      in_turn front (new ++ back) path,
      in_turn old back path,
      in_turn new back path,
      nothing old path gone,
      nothing new path added,
    ) refl
