-- A prefix and another that it may cover, label by label.
use Rattle.std.proofs.Common.{◌≡◌, ℕ, zero, suc, ◌+◌, ◌<◌, ◌≤◌, List, [], ◌∷◌, Some, None, Bool}
use Rattle.std.proofs.Common.{true, false, ◌&&◌, length, map, drop, get_or, refl, sym, ap, subst}
use Rattle.std.proofs.Common.{◌∙◌, arith, add-one, drop-cons}
use Rattle.std.specs.Prelude.{◌↔◌, IsTrue}
use Rattle.std.proofs.lemmas.Bool.{and_parts, and_from, false_from_ne_true, false≢true}
use Rattle.std.proofs.lemmas.Slice.Eq.{bytes_eq-Decides}
use Rattle.std.proofs.lemmas.List.{length-map, drop_all}
use Rattle.dtab_table.specs.declared.prefix.PrefixLabel.{PrefixLabel}
use Rattle.dtab_table.specs.Pattern.{Pattern, pattern_of}
use Rattle.dtab_check.specs.Hidden.{pattern_covers, covers}

covers-long : (ps qs : List Pattern) → covers ps qs ≡ true → length ps ≤ length qs
covers-long [] qs h = omega arith
covers-long (p ∷ ps) [] h = cc
covers-long (p ∷ ps) (q ∷ qs) h = let parts = and_parts (pattern_covers p q) (covers ps qs) h in
    omega (arith, covers-long ps qs parts.1)

covers-drop : (labels others : List PrefixLabel) (at : ℕ)
    → covers (map pattern_of labels) (map pattern_of others) ≡ true
    → covers (map pattern_of (drop at labels)) (map pattern_of (drop at others)) ≡ true
covers-drop labels others zero h = h
covers-drop [] others (suc at) h = refl
covers-drop (p ∷ ps) [] (suc at) h = cc
covers-drop (p ∷ ps) (q ∷ qs) (suc at) h =
    let parts = and_parts (pattern_covers (pattern_of p) (pattern_of q))
    (covers (map pattern_of ps) (map pattern_of qs)) h in
    covers-drop ps qs at parts.1

module _ (labels others : List PrefixLabel) where
  -- the labels from one on stand for those of the other from there on
  abbrev pub CoverFrom : ℕ → Type 0
  CoverFrom at = covers (map pattern_of (drop at labels)) (map pattern_of (drop at others)) ≡ true

  pub too_long : length others < length labels → false
      ≡ covers (map pattern_of labels) (map pattern_of others)
  too_long more =
      sym (false_from_ne_true (covers (map pattern_of labels) (map pattern_of others))
      (λ h. let long = covers-long (map pattern_of labels) (map pattern_of others) h in
      omega (arith, long, length-map labels pattern_of, length-map others pattern_of)))

  pub none_left : (at : ℕ) → length labels ≤ at → CoverFrom at
  none_left at past = let none : drop at labels ≡ [] = drop_all at labels past in rw none refl

  module _ (at next : ℕ) (p q : PrefixLabel) (step : at + 1 ≡ next) (within : at < length labels)
      (long : length labels ≤ length others) (is : p ≡ get_or labels at p)
      (has : q ≡ get_or others at q) where
    cut : covers (map pattern_of (drop at labels)) (map pattern_of (drop at others))
        ≡ (pattern_covers (pattern_of p) (pattern_of q) && covers
        (map pattern_of (drop (at + 1) labels)) (map pattern_of (drop (at + 1) others)))
    cut =
        let there : at < length others = omega (arith, within, long) in
        rw (drop-cons labels at p within, drop-cons others at q there, ← is, ← has, add-one) refl

    pub label_covers : CoverFrom next → pattern_covers (pattern_of p) (pattern_of q) ≡ true
        → CoverFrom at
    label_covers rest h =
        let P : ℕ → Type 0 = λ n. CoverFrom n in
        cut ∙ and_from (pattern_covers (pattern_of p) (pattern_of q))
        (covers (map pattern_of (drop (at + 1) labels)) (map pattern_of (drop (at + 1) others))) h
        (subst P (sym step) rest)

    pub label_differs : pattern_covers (pattern_of p) (pattern_of q) ≡ false
        → false ≡ covers (map pattern_of labels) (map pattern_of others)
    label_differs h =
        let here : covers (map pattern_of (drop at labels)) (map pattern_of (drop at others))
        ≡ false =
        cut ∙ ap (λ b. b && covers (map pattern_of (drop (at + 1) labels))
        (map pattern_of (drop (at + 1) others))) h in
        sym (false_from_ne_true (covers (map pattern_of labels) (map pattern_of others))
        (λ all. false≢true (sym here ∙ covers-drop labels others at all)))

  pub all_cover : CoverFrom 0 → true ≡ covers (map pattern_of labels) (map pattern_of others)
  all_cover whole = sym whole

-- what covers is the prefixes of these labels
pub both_lists : (labels others : List PrefixLabel) (prefix other : List Pattern)
    → map pattern_of labels ≡ prefix → map pattern_of others ≡ other
    → covers (map pattern_of labels) (map pattern_of others) ≡ covers prefix other
both_lists labels others prefix other is also = rw (is, also) refl

-- two prefixes of which each covers the other have the same labels
pattern-both : (p q : Pattern) → pattern_covers p q ≡ true → pattern_covers q p ≡ true → p ≡ q
pattern-both None None h g = refl
pattern-both None (Some l) h g = cc
pattern-both (Some m) None h g = cc
pattern-both (Some m) (Some l) h g = ap Some ((bytes_eq-Decides m l).0 h)

covers-both : (ps qs : List Pattern) → covers ps qs ≡ true → covers qs ps ≡ true → ps ≡ qs
covers-both [] [] h g = refl
covers-both [] (q ∷ qs) h g = cc
covers-both (p ∷ ps) [] h g = cc
covers-both (p ∷ ps) (q ∷ qs) h g =
    let parts = and_parts (pattern_covers p q) (covers ps qs) h in
    let back = and_parts (pattern_covers q p) (covers qs ps) g in
    let first : p ≡ q = pattern-both p q parts.0 back.0 in
    let rest : ps ≡ qs = covers-both ps qs parts.1 back.1 in
    rw (first, rest) refl

-- and a prefix covers itself
pattern-itself : (p : Pattern) → pattern_covers p p ≡ true
pattern-itself None = refl
pattern-itself (Some l) = (bytes_eq-Decides l l).1 refl

covers-itself : (ps : List Pattern) → covers ps ps ≡ true
covers-itself [] = refl
covers-itself (p ∷ ps) = and_from (pattern_covers p p) (covers ps ps) (pattern-itself p)
    (covers-itself ps)

pub same-if : (ps qs : List Pattern) (told : Bool) → told ≡ (covers qs ps && covers ps qs)
    → IsTrue told ↔ (ps ≡ qs)
same-if ps qs told is = (
  λ h.
      let parts = and_parts (covers qs ps) (covers ps qs) (sym is ∙ h) in
      covers-both ps qs parts.1 parts.0,
  λ same.
      let one : covers qs ps ≡ true = rw same (covers-itself qs) in
      let other : covers ps qs ≡ true = rw same (covers-itself qs) in
      is ∙ and_from (covers qs ps) (covers ps qs) one other,
)

pub and-second : (told a b : Bool) → a ≡ true → told ≡ b → told ≡ (a && b)
and-second told true b h is = is
and-second told false b h is = cc

pub and-first : (told a b : Bool) → told ≡ a → told ≡ false → told ≡ (a && b)
and-first told true b is h = let clash : true ≡ false = sym is ∙ h in absurd (cc)
and-first told false b is h = is
