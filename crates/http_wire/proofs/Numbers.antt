-- Numbers written in decimal digits.
use Rattle.std.proofs.Common.{◌≡◌, ◌<◌, ◌≤◌, ◌+◌, ◌-◌, ◌*◌, ◌/◌, ◌^◌, ℕ, Bool, true, false, List}
use Rattle.std.proofs.Common.{length, take, get_or, refl, sym, ap, ◌∙◌, arith, Some, None, cond}
use Rattle.std.proofs.Common.{ltb, ◌&&◌}
use Rattle.std.specs.List.{list_all}
use Rattle.std.specs.Char.{is_ascii_digit, digit_value}
use Rattle.std.specs.Str.Parse.{digits_value}
use Rattle.std.proofs.lemmas.List.Folds.{list_all_more}
use Rattle.std.proofs.lemmas.Int.Digits.{digits_value_more}
use Rattle.std.proofs.lemmas.Str.Parse.{digits_value-take-le}
use Rattle.std.proofs.lemmas.Bool.Decides.{nat_tests}
use Rattle.http_wire.specs.Framing.{number_of}

-- a digit more, where the limit leaves room for it
pub digit_more : (digits : List ℕ) (i value digit : ℕ) → i < length digits
    → list_all is_ascii_digit (take i digits) ≡ true
    → value ≡ digits_value 10 (take i digits) → is_ascii_digit (get_or digits i 0) ≡ true
    → digit ≡ get_or digits i 0 - 48
    → (list_all is_ascii_digit (take (i + 1) digits) ≡ true)
    × (value * 10 + digit ≡ digits_value 10 (take (i + 1) digits)) × (digit < 10)
digit_more digits i value digit within before is here names =
    let all = list_all_more is_ascii_digit digits i 0 within in
    let more = digits_value_more 10 digits i within in
    let written = digit_is (get_or digits i 0) digit here names in (
      all ∙ (λ k. before k && here k),
      sym (more ∙ (λ k. sym is k * 10 + sym written.0 k)),
      written.1,
    )
  where
    digit_is : (byte digit : ℕ) → is_ascii_digit byte ≡ true → digit ≡ byte - 48
        → (digit ≡ digit_value byte) × (digit < 10)
    digit_is byte digit is names = (grind (arith, nat_tests), grind (arith, nat_tests))

-- the limit, as the code tests it
pub still_small : (value digit : ℕ) → digit < 10 → value ≤ (9223372036854775807 - digit) / 10
    → value * 10 + digit < 2 ^ 63
still_small value digit one small = omega arith

pub past_limit : (value digit : ℕ) → digit < 10 → (9223372036854775807 - digit) / 10 < value
    → 2 ^ 63 ≤ value * 10 + digit
past_limit value digit one great = omega arith

-- past the limit, no further digit brings the number back
pub too_great : (digits : List ℕ) (i : ℕ) → i ≤ length digits
    → 2 ^ 63 ≤ digits_value 10 (take i digits) → None ≡ number_of digits
too_great digits i within past =
    let most = digits_value-take-le 10 digits i (omega arith) in
    let test : ltb (digits_value 10 digits) (2 ^ 63) ≡ false =
    grind (arith, nat_tests, past, most) in
    sym (ap (λ (b : Bool). cond (ltb 0 (length digits) && list_all is_ascii_digit digits && b)
    (Some (digits_value 10 digits)) None) test
    ∙ closed (ltb 0 (length digits) && list_all is_ascii_digit digits))
  where
    closed : (b : Bool) → cond (b && false) (Some (digits_value 10 digits)) None ≡ None
    closed true = refl
    closed false = refl
