-- A length that is written in decimal digits is read back.
use Rattle.std.proofs.Common.{◌≡◌, ℕ, ◌^◌, ◌<◌, ◌≤◌, ◌&&◌, arith, Bool, true, cond, eqb, ltb, List}
use Rattle.std.proofs.Common.{[], ◌∷◌, ◌++◌, length, map, reverse, Some, None, Option, refl, ap}
use Rattle.std.proofs.Common.{◌∙◌, All, IsTrue, false}
use Rattle.std.specs.Fmt.{decimal}
use Rattle.std.specs.List.{list_all, slice_split}
use Rattle.std.specs.Option.{option_eq, option_and_then}
use Rattle.std.specs.Char.{is_ascii_digit}
use Rattle.std.specs.Str.Parse.{AllDigits, digits_value}
use Rattle.std.proofs.lemmas.Bool.Decides.{nat_tests}
use Rattle.std.proofs.lemmas.Fmt.{decimal_is_IsNumeral}
use Rattle.std.proofs.lemmas.List.{reverse-reverse}
use Rattle.std.proofs.lemmas.List.Elements.{All-cons, All-head, All-nil, All-weaker}
use Rattle.std.proofs.lemmas.List.Sorted.{All-permutation, IsPermutation-reverse}
use Rattle.std.proofs.lemmas.List.Splits.{slice_split_none}
use Rattle.std.proofs.lemmas.List.Sums.{list_all-from_AllPass}
use Rattle.std.proofs.lemmas.Str.Parse.{digit_at}
use Rattle.httparse.specs.Ascii.{comma}
use Rattle.httparse.specs.Grammar.{is_ows, is_value_byte, skip_ows, trim_ows, AllPass}
use Rattle.http_wire.specs.Framing.{agreed, number_of, pieces_of, says}

-- a text with no blank stays as it is
unblank : (text : List ℕ) → All (λ b. is_ows b ≡ false) text → skip_ows text ≡ text
unblank [] clean = refl
unblank (b ∷ bs) clean = ap (λ (t : Bool). cond t (skip_ows bs) (b ∷ bs))
    (All-head (λ x. is_ows x ≡ false) b bs clean)

pub untrimmed : (text : List ℕ) → All (λ b. is_ows b ≡ false) text → trim_ows text ≡ text
unfolding trim_ows
untrimmed text clean =
    let turned = All-permutation (λ b. is_ows b ≡ false) text (reverse text)
    (IsPermutation-reverse text) clean in
    ap (λ (t : List ℕ). reverse (skip_ows (reverse t))) (unblank text clean)
    ∙ (ap reverse (unblank (reverse text) turned) ∙ reverse-reverse text)

pub led : (text : List ℕ) → trim_ows (32 ∷ text) ≡ trim_ows text
unfolding trim_ows
led text = refl

-- the digits of a length
all_digits : (ds : List ℕ) → AllDigits 10 ds → All (λ b. IsTrue (is_ascii_digit b)) ds
all_digits [] all = All-nil (λ b. IsTrue (is_ascii_digit b))
all_digits (d ∷ ds) all =
    All-cons (λ b. IsTrue (is_ascii_digit b)) d ds
    (digit d (digit_at (d ∷ []) 0 (all.0, tt) (omega arith))) (all_digits ds all.1)
  where
    digit : (x : ℕ) → (48 ≤ x) × (x ≤ 57) → IsTrue (is_ascii_digit x)
    digit x range = let low = range.0 in let high = range.1 in grind (arith, nat_tests, low, high)

no_blank_digit : (b : ℕ) → IsTrue (is_ascii_digit b) → is_ows b ≡ false
no_blank_digit b digit = grind (arith, nat_tests, digit)

no_comma_digit : (b : ℕ) → IsTrue (is_ascii_digit b) → eqb b comma ≡ false
no_comma_digit b digit = grind (arith, nat_tests, digit)

number_is : (n : ℕ) → n < 2 ^ 63 → number_of (decimal n) ≡ Some n
number_is n small =
    let numeral = decimal_is_IsNumeral n (omega (arith, small)) in
    let some : ltb 0 (length (decimal n)) ≡ true =
    (let long = numeral.0.0 in grind (arith, nat_tests, long)) in
    let digits : list_all is_ascii_digit (decimal n) ≡ true =
    list_all-from_AllPass is_ascii_digit (decimal n) (all_digits (decimal n) numeral.0.1) in
    let fits : ltb (digits_value 10 (decimal n)) (2 ^ 63) ≡ true =
    rw numeral.1 (grind (arith, nat_tests, small)) in
    (λ i. cond (some i && digits i && fits i) (Some (numeral.1 i)) None)

same_number : (n : ℕ) → eqb n n ≡ true
same_number n = grind (arith, nat_tests)

pub length_agreed : (n : ℕ) → n < 2 ^ 63 → agreed (pieces_of (decimal n ∷ [])) ≡ Some n
unfolding says
length_agreed n small =
    let digits = all_digits (decimal n) (decimal_is_IsNumeral n (omega (arith, small))).0.1 in
    let bare = untrimmed (decimal n)
    (All-weaker (λ b. IsTrue (is_ascii_digit b)) (λ b. is_ows b ≡ false) no_blank_digit
    (decimal n) digits) in
    let whole : slice_split (λ (b : ℕ). eqb b comma) (decimal n) ≡ decimal n ∷ [] =
    slice_split_none (λ (b : ℕ). eqb b comma) (decimal n)
    (All-weaker (λ b. IsTrue (is_ascii_digit b)) (λ b. eqb b comma ≡ false) no_comma_digit
    (decimal n) digits) in
    let pieces : pieces_of (decimal n ∷ []) ≡ decimal n ∷ [] =
    ap (λ (ps : List (List ℕ)). map trim_ows ps ++ []) whole ∙ ap (λ (t : List ℕ). t ∷ []) bare in
    let number = number_is n small in
    let said : says n (decimal n) ≡ true = ap (λ (o : Option ℕ). option_eq eqb o (Some n)) number
    ∙ same_number n in
    ap agreed pieces
    ∙ (ap (option_and_then (λ (m : ℕ). cond (says m (decimal n) && true) (Some m) None)) number
    ∙ ap (λ (t : Bool). cond (t && true) (Some n) None) said)

pub trimmed_digits : (n : ℕ) → n < 2 ^ 63 → trim_ows (32 ∷ decimal n) ≡ decimal n
trimmed_digits n small =
    let digits = all_digits (decimal n) (decimal_is_IsNumeral n (omega (arith, small))).0.1 in
    led (decimal n) ∙ untrimmed (decimal n)
    (All-weaker (λ b. IsTrue (is_ascii_digit b)) (λ b. is_ows b ≡ false) no_blank_digit
    (decimal n) digits)

-- the bytes of a number are digits
pub decimal_digits : (n : ℕ) → n < 2 ^ 64 → AllPass is_ascii_digit (decimal n)
decimal_digits n small = all_digits (decimal n) (decimal_is_IsNumeral n small).0.1

-- so they may stand in a field
pub decimal_value : (n : ℕ) → n < 2 ^ 64 → AllPass is_value_byte (decimal n)
decimal_value n small =
    All-weaker (λ b. IsTrue (is_ascii_digit b)) (λ b. IsTrue (is_value_byte b)) value_digit
    (decimal n) (all_digits (decimal n) (decimal_is_IsNumeral n small).0.1)
  where
    value_digit : (b : ℕ) → IsTrue (is_ascii_digit b) → IsTrue (is_value_byte b)
    value_digit b digit = grind (arith, nat_tests, digit)
