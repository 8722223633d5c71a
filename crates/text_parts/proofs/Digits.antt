-- Numbers in decimal digits.
use Rattle.std.proofs.Common.{◌≡◌, ◌≢◌, ℕ, zero, suc, ◌+◌, ◌-◌, ◌*◌, ◌<◌, ◌≤◌, ◌^◌, Bool, true}
use Rattle.std.proofs.Common.{false, List, [], ◌∷◌, length, drop, Some, None, Option, refl, sym, ap}
use Rattle.std.proofs.Common.{subst, ◌∙◌, arith, drop-cons, get_or}
use Rattle.std.specs.Prelude.{◌↔◌, ◌==◌, nat_le, if◌then◌else◌}
use Rattle.std.specs.Int.{IsInRange}
use Rattle.std.specs.Char.{is_ascii_digit, digit_value}
use Rattle.std.specs.Fmt.{decimal}
use Rattle.std.specs.Str.Parse.{AllDigits, digits_value, digits_value_after}
use Rattle.std.proofs.lemmas.Bool.Decides.{nat_tests}
use Rattle.std.proofs.lemmas.Fmt.{decimal_is_IsNumeral, decimal-digits_value, decimal_digit}
use Rattle.std.proofs.lemmas.Fmt.{first_decimal}
use Rattle.std.proofs.lemmas.Option.{same_Some}
use Rattle.std.proofs.lemmas.Str.{digit_value_digit}
use Rattle.std.proofs.lemmas.Str.Parse.{numerals_by_value, tells_digits, digit_from_value}
use Rattle.text_parts.specs.Numbers.{digits_behind, number_value, at_most, number_of}

-- a number that is over the limit stays over it
over_limit : (most n : ℕ) (bs : List ℕ) → most < n → at_most most (digits_behind n bs) ≡ None
over_limit most n [] h = grind (arith, nat_tests)
over_limit most n (b ∷ bs) h =
    let later = over_limit most (10 * n + (b - 48)) bs (omega arith) in
    elim (is_ascii_digit b) as (λ d. at_most most
    (if d then digits_behind (10 * n + (b - 48)) bs else None) ≡ None)
    [ true ↦ later | false ↦ refl ]

-- the next digit takes the number over the limit
pub over_at : (most n : ℕ) (text : List ℕ) (at : ℕ) → at < length text
    → is_ascii_digit (get_or text at 0) ≡ true → most < 10 * n + (get_or text at 0 - 48)
    → digits_behind n (drop at text) ≡ digits_behind 0 text
    → None ≡ at_most most (digits_behind 0 text)
over_at most n text at lt digit over same =
    let next : drop at text ≡ get_or text at 0 ∷ drop (suc at) text = drop-cons text at 0 lt in
    let read : digits_behind n (get_or text at 0 ∷ drop (suc at) text)
    ≡ digits_behind (10 * n + (get_or text at 0 - 48)) (drop (suc at) text) = rw digit refl in
    sym (ap (at_most most) (sym same ∙ ap (digits_behind n) next ∙ read)
    ∙ over_limit most (10 * n + (get_or text at 0 - 48)) (drop (suc at) text) over)

pub at_most_gives : (most : ℕ) (o : Option ℕ) (v : ℕ) → at_most most o ≡ Some v
    → (o ≡ Some v) × (v ≤ most)
at_most_gives most None v e = cc
at_most_gives most (Some n) v e = go (nat_le n most) refl e
  where
    go : (t : Bool) → nat_le n most ≡ t → (if t then Some n else None) ≡ Some v
        → (Some n ≡ Some v) × (v ≤ most)
    go true h f = let le : n ≤ most = grind (arith, nat_tests) in
        (f, subst (λ m. m ≤ most) (same_Some n v f) le)
    go false h f = cc

pub at_most_read : (most n : ℕ) → n ≤ most → at_most most (Some n) ≡ Some n
at_most_read most n le = let e : nat_le n most ≡ true = grind (arith, nat_tests) in rw e refl

-- ---- the text that is read as a number is the one that is written for it

in_range : (b : ℕ) → is_ascii_digit b ≡ true → IsInRange 48 57 b
in_range b h = (grind (arith, nat_tests), grind (arith, nat_tests))

is_digit : (b : ℕ) → IsInRange 48 57 b → is_ascii_digit b ≡ true
is_digit b range = let low = range.0 in let high = range.1 in grind (arith, nat_tests, low, high)

digits_give : (n : ℕ) (ds : List ℕ) (v : ℕ) → digits_behind n ds ≡ Some v
    → AllDigits 10 ds × (v ≡ digits_value_after 10 n ds)
digits_give n [] v e = (tt, sym (same_Some n v e))
digits_give n (d ∷ ds) v e = go (is_ascii_digit d) refl e (digits_give (10 * n + (d - 48)) ds v)
  where
    go : (t : Bool) → is_ascii_digit d ≡ t
        → (if t then digits_behind (10 * n + (d - 48)) ds else None) ≡ Some v
        → (digits_behind (10 * n + (d - 48)) ds ≡ Some v → AllDigits 10 ds
        × (v ≡ digits_value_after 10 (10 * n + (d - 48)) ds))
        → AllDigits 10 (d ∷ ds) × (v ≡ digits_value_after 10 n (d ∷ ds))
    go true h f more =
        let rest = more f in
        let range = in_range d h in
        let is = digit_value_digit d range in
        let small : digit_value d < 10 = omega (arith, is, range.1) in
        let same : 10 * n + (d - 48) ≡ n * 10 + digit_value d = omega (arith, is, range.0) in
        ((small, rest.0), rest.1 ∙ ap (λ m. digits_value_after 10 m ds) same)
    go false h f more = cc

digits_read : (n : ℕ) (ds : List ℕ) → AllDigits 10 ds
    → digits_behind n ds ≡ Some (digits_value_after 10 n ds)
digits_read n [] all = refl
digits_read n (d ∷ ds) all =
    let range = digit_from_value d all.0 in
    let is = digit_value_digit d range in
    let digit : is_ascii_digit d ≡ true = is_digit d range in
    let same : 10 * n + (d - 48) ≡ n * 10 + digit_value d = omega (arith, is, range.0) in
    rw digit (digits_read (10 * n + (d - 48)) ds all.1
    ∙ ap (λ m. Some (digits_value_after 10 m ds)) same)

-- digits with no leading zero, and their value
record Numeral (ds : List ℕ) (n : ℕ) : Type 0 where
  all : AllDigits 10 ds
  some : 0 < length ds
  lead : get_or ds 0 0 ≡ 48 → length ds ≡ 1
  value : digits_value 10 ds ≡ n

number_gives : (ds : List ℕ) (v : ℕ) → number_value ds ≡ Some v → Numeral ds v
number_gives [] v e = cc
number_gives (d ∷ []) v e =
    let k = digits_give 0 (d ∷ []) v e in
    record { all = k.0; some = omega arith; lead = λ _. refl; value = sym k.1 }
number_gives (d ∷ c ∷ cs) v e = go (d == 48) refl e
  where
    go : (t : Bool) → (d == 48) ≡ t → (if t then None else digits_behind 0 (d ∷ c ∷ cs)) ≡ Some v
        → Numeral (d ∷ c ∷ cs) v
    go true h f = cc
    go false h f =
        let k = digits_give 0 (d ∷ c ∷ cs) v f in
        let no_zero : d ≢ 48 = λ is. grind (arith, nat_tests) in
        record { all = k.0; some = omega arith; lead = λ is. absurd (no_zero is); value = sym k.1 }

number_read : (ds : List ℕ) (n : ℕ) → Numeral ds n → number_value ds ≡ Some n
number_read [] n r = let some = r.some in absurd (omega (arith, some))
number_read (d ∷ []) n r = digits_read 0 (d ∷ []) r.all ∙ ap Some r.value
number_read (d ∷ c ∷ cs) n r =
    let lead : d ≡ 48 → length (d ∷ c ∷ cs) ≡ 1 = r.lead in
    let no_zero : d ≢ 48 = λ is. let one = lead is in omega (arith, one) in
    let test : (d == 48) ≡ false = grind (arith, nat_tests) in
    rw test (digits_read 0 (d ∷ c ∷ cs) r.all ∙ ap Some r.value)

leads : (n : ℕ) → n < 2 ^ 64 → get_or (decimal n) 0 0 ≡ 48 → length (decimal n) ≡ 1
leads zero small is = ap length (decimal_digit 0 (omega arith))
leads (suc n) small is = let first = first_decimal (suc n) (omega arith) small in
    absurd (omega (arith, first, is))

decimal_numeral : (n : ℕ) → n < 2 ^ 64 → Numeral (decimal n) n
decimal_numeral n small =
    let k = decimal_is_IsNumeral n small in
    record { all = k.0.1; some = k.0.0; lead = leads n small; value = k.1 }

numeral_text : (ds : List ℕ) (n : ℕ) → n < 2 ^ 64 → Numeral ds n → ds ≡ decimal n
numeral_text ds n small r =
    let value = r.value in
    sym (decimal-digits_value (numerals_by_value (AllDigits 10) tells_digits) ds r.all r.some
    r.lead (omega (arith, value, small))) ∙ ap decimal value

pub numbers : (text : List ℕ) (n : ℕ) → (number_of text ≡ Some n)
    ↔ ((n < 2 ^ 64) × (text ≡ decimal n))
numbers text n = (gives, reads)
  where
    gives : number_of text ≡ Some n → (n < 2 ^ 64) × (text ≡ decimal n)
    gives e =
        let k = at_most_gives (2 ^ 64 - 1) (number_value text) n e in
        let small : n < 2 ^ 64 = let most = k.1 in omega (arith, most) in
        (small, numeral_text text n small (number_gives text n k.0))

    reads : (n < 2 ^ 64) × (text ≡ decimal n) → number_of text ≡ Some n
    reads r =
        let small = r.0 in
        ap number_of r.1 ∙ (ap (at_most (2 ^ 64 - 1))
        (number_read (decimal n) n (decimal_numeral n small))
        ∙ at_most_read (2 ^ 64 - 1) n (omega (arith, small)))
