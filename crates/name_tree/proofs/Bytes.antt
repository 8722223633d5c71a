-- Which bytes are which.
use Rattle.std.proofs.Common.{◌≡◌, ℕ, ◌-◌, arith, ◌⊎◌, Bool, true, false, cond, Some, None, refl}
use Rattle.std.proofs.Common.{sym, subst, ◌∙◌, inl, inr, ⊎_elim}
use Rattle.std.specs.Prelude.{◌||◌, ◌&&◌, ◌==◌, nat_le, if◌then◌else◌}
use Rattle.std.specs.Char.{is_ascii_digit, is_ascii_alphanumeric}
use Rattle.std.specs.Int.{is_in_range}
use Rattle.std.proofs.lemmas.Bool.{or_cases, and_parts, and_from, eqb-true, leb-true, le-leb}
use Rattle.std.proofs.lemmas.Bool.{true≢false}
use Rattle.std.proofs.lemmas.Option.{none-some}
use Rattle.std.proofs.Math.Bool.{true-or, or-true}
use Rattle.name_tree.specs.Path.{is_plain}
use Rattle.name_tree.specs.Grammar.{is_blank, is_digit, hex_value}
use Rattle.name_tree.specs.LabelReading.{is_path_byte}

-- what holds of the four blanks holds of each blank
pub each_blank : (P : ℕ → Type 0) → P 32 → P 9 → P 13 → P 10 → (b : ℕ) → is_blank b ≡ true → P b
each_blank P space tab cr lf b h =
    ⊎_elim (λ i. ⊎_elim (λ j. ⊎_elim (λ k. subst P (sym (eqb-true b 32 k)) space)
    (λ k. subst P (sym (eqb-true b 9 k)) tab) (or_cases (b == 32) (b == 9) j))
    (λ j. subst P (sym (eqb-true b 13 j)) cr) (or_cases (b == 32 || b == 9) (b == 13) i))
    (λ i. subst P (sym (eqb-true b 10 i)) lf) (or_cases (b == 32 || b == 9 || b == 13) (b == 10) h)

pub blank-path : (b : ℕ) → is_blank b ≡ true → is_path_byte b ≡ false
unfolding is_plain
blank-path b h = each_blank (λ c. is_path_byte c ≡ false) refl refl refl refl b h

pub blank-digit : (b : ℕ) → is_blank b ≡ true → is_digit b ≡ false
blank-digit b h = each_blank (λ c. is_digit c ≡ false) refl refl refl refl b h

or_left : (x y : Bool) → x ≡ true → (x || y) ≡ true
or_left x y h = rw h (true-or y)

or_right : (x y : Bool) → y ≡ true → (x || y) ≡ true
or_right x y h = rw h (or-true x)

-- a test that cannot pass fails
pub fails : (t : Bool) → (t ≡ true → ⊥) → t ≡ false
fails true h = absurd (h refl)
fails false h = refl

pub plain-path : (b : ℕ) → is_plain b ≡ true → is_path_byte b ≡ true
plain-path b h = or_left (is_plain b || b == 47) (b == 92) (or_left (is_plain b) (b == 47) h)

alphanumeric-plain : (b : ℕ) → is_ascii_alphanumeric b ≡ true → is_plain b ≡ true
unfolding is_plain
alphanumeric-plain b h = or_left _ _
    (or_left _ _ (or_left _ _ (or_left _ _ (or_left _ _ (or_left _ _ (or_left _ _ h))))))

pub digit-path : (b : ℕ) → is_digit b ≡ true → is_path_byte b ≡ true
digit-path b h = plain-path b
    (alphanumeric-plain b
    (or_left (is_ascii_digit b || is_in_range 65 90 b) (is_in_range 97 122 b)
    (or_left (is_ascii_digit b) (is_in_range 65 90 b) h)))

pub other-digit : (b : ℕ) → is_path_byte b ≡ false → is_digit b ≡ false
other-digit b h = fails (is_digit b) (λ e. true≢false (sym (digit-path b e) ∙ h))

pub other-point : (b : ℕ) → is_path_byte b ≡ false → (b == 46) ≡ false
unfolding is_plain
other-point b h = fails (b == 46) (λ e. let P : ℕ → Type 0 = λ c. is_path_byte c ≡ false in
    true≢false (subst P (eqb-true b 46 e) h))

pub digit-blank : (b : ℕ) → is_digit b ≡ true → is_blank b ≡ false
digit-blank b h = fails (is_blank b) (λ e. true≢false (sym h ∙ blank-digit b e))

pub plain-slash : (b : ℕ) → is_plain b ≡ true → (b == 47) ≡ false
unfolding is_plain
plain-slash b h = fails (b == 47) (λ e. let P : ℕ → Type 0 = λ c. is_plain c ≡ true in
    true≢false (sym (subst P (eqb-true b 47 e) h)))

pub plain-star : (b : ℕ) → is_plain b ≡ true → (b == 42) ≡ false
unfolding is_plain
plain-star b h = fails (b == 42) (λ e. let P : ℕ → Type 0 = λ c. is_plain c ≡ true in
    true≢false (sym (subst P (eqb-true b 42 e) h)))

pub hex-slash : (b n : ℕ) → hex_value b ≡ Some n → (b == 47) ≡ false
hex-slash b n h = fails (b == 47) (λ e. let P : ℕ → Type 0 = λ c. hex_value c ≡ Some n in
    none-some n (subst P (eqb-true b 47 e) h))

pub hex-star : (b n : ℕ) → hex_value b ≡ Some n → (b == 42) ≡ false
hex-star b n h = fails (b == 42) (λ e. let P : ℕ → Type 0 = λ c. hex_value c ≡ Some n in
    none-some n (subst P (eqb-true b 42 e) h))

upper-path : (b : ℕ) → (nat_le 65 b && nat_le b 70) ≡ true → is_path_byte b ≡ true
upper-path b h =
    let e = and_parts (nat_le 65 b) (nat_le b 70) h in
    let wider : nat_le b 90 ≡ true = le-leb b 90 (omega (arith, leb-true b 70 e.1)) in
    plain-path b (alphanumeric-plain b
    (or_left (is_ascii_digit b || is_in_range 65 90 b) (is_in_range 97 122 b)
    (or_right (is_ascii_digit b) (is_in_range 65 90 b)
    (and_from (nat_le 65 b) (nat_le b 90) e.0 wider))))

lower-path : (b : ℕ) → (nat_le 97 b && nat_le b 102) ≡ true → is_path_byte b ≡ true
lower-path b h =
    let e = and_parts (nat_le 97 b) (nat_le b 102) h in
    let wider : nat_le b 122 ≡ true = le-leb b 122 (omega (arith, leb-true b 102 e.1)) in
    plain-path b (alphanumeric-plain b
    (or_right (is_ascii_digit b || is_in_range 65 90 b) (is_in_range 97 122 b)
    (and_from (nat_le 97 b) (nat_le b 122) e.0 wider)))

-- what a choice by a test gives, with the test's answer
pub chosen : {A : Type 0} (t : Bool) (x y z : A) → cond t x y ≡ z
    → ((t ≡ true) × (x ≡ z)) ⊎ ((t ≡ false) × (y ≡ z))
chosen true x y z h = inl (refl, h)
chosen false x y z h = inr (refl, h)

pub hex-path : (b n : ℕ) → hex_value b ≡ Some n → is_path_byte b ≡ true
hex-path b n h =
    ⊎_elim (λ d. digit-path b d.0)
    (λ d. ⊎_elim (λ u. upper-path b u.0)
    (λ u. ⊎_elim (λ l. lower-path b l.0) (λ l. absurd (none-some n l.1))
    (chosen (nat_le 97 b && nat_le b 102) (Some (b - 87)) None (Some n) u.1))
    (chosen (nat_le 65 b && nat_le b 70) (Some (b - 55))
    (if nat_le 97 b && nat_le b 102 then Some (b - 87) else None) (Some n) d.1))
    (chosen (is_digit b) (Some (b - 48))
    (if nat_le 65 b && nat_le b 70 then Some (b - 55) else
    (if nat_le 97 b && nat_le b 102 then Some (b - 87) else None)) (Some n) h)
