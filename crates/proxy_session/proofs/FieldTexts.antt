-- Texts of bytes, and those without blanks at their ends.
use Rattle.std.proofs.Common.{◌≡◌, ℕ, ◌<◌, ◌&&◌, not, arith, Bool, true, false, cond, ltb, List, []}
use Rattle.std.proofs.Common.{◌∷◌, ◌++◌, reverse, refl, sym, ap, ◌∙◌, subst, All, IsTrue}
use Rattle.std.proofs.lemmas.Bool.Decides.{nat_tests}
use Rattle.std.proofs.lemmas.List.{reverse-append, reverse-reverse}
use Rattle.std.proofs.lemmas.List.Elements.{All-cons, All-head, All-nil, All-tail, All-weaker}
use Rattle.httparse.specs.Grammar.{AllPass, is_ows, is_uri_byte, is_value_byte, skip_ows, trim_ows}
use Rattle.httparse.proofs.TrimLemmas.{AllPass-reverse, AllPass-trim_ows}

-- ---- bytes

abbrev pub is_byte : ℕ → Bool
is_byte b = ltb b 256

-- a byte of a field's value, and one of a target
abbrev pub is_field_byte : ℕ → Bool
is_field_byte b = is_value_byte b && is_byte b

abbrev pub is_target_byte : ℕ → Bool
is_target_byte b = is_uri_byte b && is_byte b

pub front : {X : Type 0} (P : X → Type 0) (xs ys : List X) → All P (xs ++ ys) → All P xs
front P [] ys all = All-nil P
front P (x ∷ xs) ys all =
    All-cons P x xs (All-head P x (xs ++ ys) all) (front P xs ys (All-tail P x (xs ++ ys) all))

pub back : {X : Type 0} (P : X → Type 0) (xs ys : List X) → All P (xs ++ ys) → All P ys
back P [] ys all = all
back P (x ∷ xs) ys all = back P xs ys (All-tail P x (xs ++ ys) all)

abbrev Passes : (ℕ → Bool) → ℕ → Type 0
Passes test b = IsTrue (test b)

pub are_bytes : (text : List ℕ) → All (λ b. b < 256) text → AllPass is_byte text
are_bytes text all =
    All-weaker (λ b. b < 256) (Passes is_byte) (λ b small. grind (arith, nat_tests, small)) text all

pub bytes_are : (text : List ℕ) → AllPass is_byte text → All (λ b. b < 256) text
bytes_are text all =
    All-weaker (Passes is_byte) (λ b. b < 256) (λ b small. grind (arith, nat_tests, small)) text all

pub both_pass : (p q : ℕ → Bool) (text : List ℕ) → AllPass p text → AllPass q text
    → AllPass (λ b. p b && q b) text
both_pass p q [] first second = All-nil (Passes (λ b. p b && q b))
both_pass p q (b ∷ bs) first second =
    All-cons (Passes (λ x. p x && q x)) b bs (both (p b) (q b) (All-head (Passes p) b bs first)
    (All-head (Passes q) b bs second))
    (both_pass p q bs (All-tail (Passes p) b bs first) (All-tail (Passes q) b bs second))
  where
    both : (s t : Bool) → IsTrue s → IsTrue t → IsTrue (s && t)
    both true true x y = refl
    both true false x y = y
    both false t x y = x

pub field_bytes : (text : List ℕ) → AllPass is_field_byte text → AllPass is_byte text
field_bytes text all =
    All-weaker (Passes is_field_byte) (Passes is_byte) (λ b is. grind (arith, nat_tests, is)) text
    all

pub value_bytes : (text : List ℕ) → AllPass is_field_byte text → AllPass is_value_byte text
value_bytes text all =
    All-weaker (Passes is_field_byte) (Passes is_value_byte) (λ b is. grind (arith, nat_tests, is))
    text all

pub target_bytes : (text : List ℕ) → AllPass is_target_byte text → AllPass is_byte text
target_bytes text all =
    All-weaker (Passes is_target_byte) (Passes is_byte) (λ b is. grind (arith, nat_tests, is)) text
    all

pub uri_bytes : (text : List ℕ) → AllPass is_target_byte text → AllPass is_uri_byte text
uri_bytes text all =
    All-weaker (Passes is_target_byte) (Passes is_uri_byte) (λ b is. grind (arith, nat_tests, is))
    text all

-- ---- blanks

abbrev Starts : List ℕ → Type 0
Starts [] = Unit {0}
Starts (b ∷ bs) = is_ows b ≡ false

stays : (text : List ℕ) → Starts text → skip_ows text ≡ text
stays [] starts = refl
stays (b ∷ bs) starts = ap (λ (t : Bool). cond t (skip_ows bs) (b ∷ bs)) starts

skipped : (text : List ℕ) → Starts (skip_ows text)
skipped [] = tt
skipped (b ∷ bs) = by_test (is_ows b) refl (skipped bs)
  where
    by_test : (t : Bool) → is_ows b ≡ t → Starts (skip_ows bs)
        → Starts (cond t (skip_ows bs) (b ∷ bs))
    by_test true test later = later
    by_test false test later = test

-- what is skipped stands in front
split : (text : List ℕ) → (blanks : List ℕ) × (text ≡ blanks ++ skip_ows text)
split [] = ([], refl)
split (b ∷ bs) = by_test (is_ows b) (split bs)
  where
    by_test : (t : Bool) → ((blanks : List ℕ) × (bs ≡ blanks ++ skip_ows bs)) → (blanks : List ℕ)
        × (b ∷ bs ≡ blanks ++ cond t (skip_ows bs) (b ∷ bs))
    by_test true (blanks, is) = (b ∷ blanks, ap (λ (xs : List ℕ). b ∷ xs) is)
    by_test false later = ([], refl)

front_starts : (xs ys : List ℕ) → Starts (xs ++ ys) → Starts xs
front_starts [] ys starts = tt
front_starts (x ∷ xs) ys starts = starts

-- a text with no blank at an end
ends : (text : List ℕ) → Starts text → Starts (reverse text) → trim_ows text ≡ text
unfolding trim_ows
ends text at_front at_back =
    rw (stays text at_front, stays (reverse text) at_back) (reverse-reverse text)

-- what is trimmed has none
pub trimmed_once : (text : List ℕ) → trim_ows (trim_ows text) ≡ trim_ows text
unfolding trim_ows
trimmed_once text =
    let s = skip_ows text in
    let r = skip_ows (reverse s) in
    let cut = split (reverse s) in
    let whole : s ≡ reverse r ++ reverse cut.0 = sym (reverse-reverse s) ∙ ap reverse cut.1 ∙
    reverse-append cut.0 r in
    ends (reverse r) (front_starts (reverse r) (reverse cut.0) (subst Starts whole (skipped text)))
    (subst Starts (sym (reverse-reverse r)) (skipped (reverse s)))

abbrev is_solid : ℕ → Bool
is_solid b = not (is_ows b)

solid_starts : (text : List ℕ) → AllPass is_solid text → Starts text
solid_starts [] all = tt
solid_starts (b ∷ bs) all = turned (is_ows b) (All-head (Passes is_solid) b bs all)
  where
    turned : (t : Bool) → IsTrue (not t) → t ≡ false
    turned true is = sym is
    turned false is = refl

solid : (text : List ℕ) → AllPass is_solid text → trim_ows text ≡ text
solid text all =
    ends text (solid_starts text all) (solid_starts (reverse text)
    (AllPass-reverse is_solid text all))

-- ---- texts of fields

-- a text that may stand in a field as it is
pub record IsFieldText (text : List ℕ) : Type 0 where
  pub bytes : AllPass is_field_byte text
  pub trimmed : trim_ows text ≡ text

pub empty_text : IsFieldText []
empty_text = record {
  bytes = All-nil (Passes is_field_byte);
  trimmed = solid [] (All-nil (Passes is_solid));
}

-- what a field's value is without the blanks around it
pub trimmed_text : (text : List ℕ) → AllPass is_field_byte text → IsFieldText (trim_ows text)
trimmed_text text all = record {
  bytes = AllPass-trim_ows is_field_byte text all;
  trimmed = trimmed_once text;
}

-- a text of visible bytes
pub visible_text : (text : List ℕ) → AllPass is_target_byte text → IsFieldText text
visible_text text all = record {
  bytes =
      All-weaker (Passes is_target_byte) (Passes is_field_byte)
      (λ b is. grind (arith, nat_tests, is)) text all;
  trimmed =
      solid text (All-weaker (Passes is_target_byte) (Passes is_solid)
      (λ b is. grind (arith, nat_tests, is)) text all);
}
