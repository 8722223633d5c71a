-- The canonical text of a path or a weight stands for it.
use Rattle.std.proofs.Common.{◌≡◌, ℕ, zero, suc, ◌+◌, ◌*◌, ◌/◌, ◌%◌, ◌^◌, ◌<◌, ◌≤◌, arith, Bool}
use Rattle.std.proofs.Common.{true, false, cond, List, [], ◌∷◌, ◌++◌, length, Some, refl, sym, ap}
use Rattle.std.proofs.Common.{subst, subst₂, ◌∙◌, append_assoc, length-append}
use Rattle.std.specs.Prelude.{◌==◌, codes, All}
use Rattle.std.specs.Fmt.{decimal}
use Rattle.std.specs.List.{flat_map}
use Rattle.std.proofs.lemmas.Bool.{le-leb, and_from, eqb-true}
use Rattle.std.proofs.lemmas.Fmt.{decimal_by_steps, length-decimal-le}
use Rattle.std.proofs.lemmas.List.{append-nil}
use Rattle.std.proofs.lemmas.List.Concat.{flat_map-cons}
use Rattle.std.proofs.lemmas.List.Elements.{All-head, All-tail}
use Rattle.name_tree.specs.Path.{Label, Labels, is_plain, hex_digit, canon_byte, canon_label}
use Rattle.name_tree.specs.Path.{canon_path}
use Rattle.name_tree.specs.Value.{one_whole}
use Rattle.name_tree.specs.Grammar.{hex_value, is_digit, AreDigits, no_digit, digit, number}
use Rattle.name_tree.specs.Grammar.{fraction, SpellsByte, plain, escape, SpellsLabel, byte, bytes}
use Rattle.name_tree.specs.Grammar.{SpellsLabels, label, labels, SpellsPath, root, under}
use Rattle.name_tree.specs.Grammar.{SpellsWeight, whole, decimal as with_decimals}
use Rattle.name_tree.specs.Canon.{decimals_text, canon_weight, IsByteLabel, AreByteLabels}
use Rattle.name_tree.proofs.Blanks.{digits_snoc}
use Rattle.name_tree.proofs.Fronts.{number_snoc}

-- paths

hex_back : (n : ℕ) → n < 16 → hex_value (hex_digit n) ≡ Some n
hex_back zero h = refl
hex_back (suc zero) h = refl
hex_back (suc (suc zero)) h = refl
hex_back (suc (suc (suc zero))) h = refl
hex_back (suc (suc (suc (suc zero)))) h = refl
hex_back (suc (suc (suc (suc (suc zero))))) h = refl
hex_back (suc (suc (suc (suc (suc (suc zero)))))) h = refl
hex_back (suc (suc (suc (suc (suc (suc (suc zero))))))) h = refl
hex_back (suc (suc (suc (suc (suc (suc (suc (suc zero)))))))) h = refl
hex_back (suc (suc (suc (suc (suc (suc (suc (suc (suc zero))))))))) h = refl
hex_back (suc (suc (suc (suc (suc (suc (suc (suc (suc (suc zero)))))))))) h = refl
hex_back (suc (suc (suc (suc (suc (suc (suc (suc (suc (suc (suc zero))))))))))) h = refl
hex_back (suc (suc (suc (suc (suc (suc (suc (suc (suc (suc (suc (suc zero)))))))))))) h = refl
hex_back (suc (suc (suc (suc (suc (suc (suc (suc (suc (suc (suc (suc (suc zero))))))))))))) h = refl
hex_back (suc (suc (suc (suc (suc (suc (suc (suc (suc (suc (suc (suc (suc (suc zero))))))))))))))
    h = refl
hex_back
    (suc (suc (suc (suc (suc (suc (suc (suc (suc (suc (suc (suc (suc (suc (suc zero)))))))))))))))
    h = refl
hex_back
    (suc
    (suc (suc (suc (suc (suc (suc (suc (suc (suc (suc (suc (suc (suc (suc (suc k))))))))))))))))
    h = absurd (omega arith)

byte_spelled : (b : ℕ) (t : Bool) → is_plain b ≡ t → b < 256
    → SpellsByte (cond t (b ∷ []) (92 ∷ 120 ∷ hex_digit (b / 16) ∷ hex_digit (b % 16) ∷ [])) b
byte_spelled b true e h = plain e
byte_spelled b false e h =
    let same : 16 * (b / 16) + b % 16 ≡ b = omega arith in
    subst (λ (n : ℕ). SpellsByte (92 ∷ 120 ∷ hex_digit (b / 16) ∷ hex_digit (b % 16) ∷ []) n) same
    (escape (hex_back (b / 16) (omega arith)) (hex_back (b % 16) (omega arith)))

canon_byte_spells : (b : ℕ) → b < 256 → SpellsByte (canon_byte b) b
canon_byte_spells b h = byte_spelled b (is_plain b) refl h

label_spells : (b : ℕ) (bs : List ℕ) → All (λ c. c < 256) (b ∷ bs)
    → SpellsLabel (flat_map canon_byte (b ∷ bs)) (b ∷ bs)
label_spells b [] h = rw flat_map-cons
    (rw append-nil (byte (canon_byte_spells b (All-head (λ c. c < 256) b [] h))))
label_spells b (c ∷ cs) h =
    subst (λ (s : List ℕ). SpellsLabel s (b ∷ c ∷ cs)) (sym (flat_map-cons canon_byte b (c ∷ cs)))
    (bytes (canon_byte_spells b (All-head (λ c. c < 256) b (c ∷ cs) h))
    (label_spells c cs (All-tail (λ c. c < 256) b (c ∷ cs) h)))

pub is_label_spells : (l : Label) → IsByteLabel l → SpellsLabel (flat_map canon_byte l) l
is_label_spells [] h = absurd (omega (arith, h.0))
is_label_spells (b ∷ bs) h = label_spells b bs h.1

labels_spell : (l : Label) (ls : Labels) → AreByteLabels (l ∷ ls)
    → SpellsLabels (flat_map canon_label (l ∷ ls)) (l ∷ ls)
labels_spell l [] h =
    subst (λ (s : List ℕ). SpellsLabels s (l ∷ []))
    (sym (flat_map-cons canon_label l [] ∙ append-nil (canon_label l)))
    (label (is_label_spells l h.0))
labels_spell l (k ∷ ks) h =
    subst (λ (s : List ℕ). SpellsLabels s (l ∷ k ∷ ks))
    (sym (flat_map-cons canon_label l (k ∷ ks)))
    (labels (is_label_spells l h.0) (labels_spell k ks h.1))

pub path_spells : (ls : Labels) → AreByteLabels ls → SpellsPath (canon_path ls) ls
path_spells [] h = root
path_spells (l ∷ ls) h = under (labels_spell l ls h)

-- weights

record Numeral (n : ℕ) (ds : List ℕ) : Type 0 where
  digits : AreDigits ds
  value : number 0 ds ≡ n
  some : 1 ≤ length ds

digit_byte : (n : ℕ) → n < 10 → is_digit (48 + n) ≡ true
digit_byte n h = and_from _ _ (le-leb 48 (48 + n) (omega arith)) (le-leb (48 + n) 57 (omega arith))

decimal_numeral : (n : ℕ) → n < 2 ^ 64 → Numeral n (decimal n)
decimal_numeral = decimal_by_steps Numeral
    (λ n h. record {
      digits = digit (digit_byte n h) no_digit;
      value = omega arith;
      some =
          omega arith;
    })
    (λ n ds h r. record {
      digits = digits_snoc (48 + n % 10) r.digits (digit_byte (n % 10) (omega arith));
      value = number_snoc 0 ds (48 + n % 10) ∙ rw r.value (omega arith);
      some = let longer = length-append ds ((48 + n % 10) ∷ []) in omega (arith, longer, r.some);
    })

record Decimals (unit rest : ℕ) (ds : List ℕ) : Type 0 where
  digits : AreDigits ds
  value : fraction unit ds ≡ rest

pick : (unit rest : ℕ) (t : Bool) (ds : List ℕ) → (rest == 0) ≡ t → Decimals unit rest ds
    → Decimals unit rest (cond t [] ds)
pick unit rest true ds e r = record { digits = no_digit; value = sym (eqb-true rest 0 e) }
pick unit rest false ds e r = r

decimals_1 : (r : ℕ) → r < 10 → Decimals 1 r (decimals_text 1 r)
decimals_1 r h = pick 1 r (r == 0) _ refl
    (record { digits = digit (digit_byte (r / 1) (omega arith)) no_digit; value = omega arith })

decimals_2 : (r : ℕ) → r < 100 → Decimals 10 r (decimals_text 2 r)
decimals_2 r h =
    let k = decimals_1 (r % 10) (omega arith) in
    let value = k.value in
    pick 10 r (r == 0) _ refl
    (record {
      digits = digit (digit_byte (r / 10) (omega arith)) k.digits;
      value =
          omega (arith, value);
    })

decimals_3 : (r : ℕ) → r < 1000 → Decimals 100 r (decimals_text 3 r)
decimals_3 r h =
    let k = decimals_2 (r % 100) (omega arith) in
    let value = k.value in
    pick 100 r (r == 0) _ refl
    (record {
      digits = digit (digit_byte (r / 100) (omega arith)) k.digits;
      value =
          omega (arith, value);
    })

decimals_4 : (r : ℕ) → r < 10000 → Decimals 1000 r (decimals_text 4 r)
decimals_4 r h =
    let k = decimals_3 (r % 1000) (omega arith) in
    let value = k.value in
    pick 1000 r (r == 0) _ refl
    (record {
      digits = digit (digit_byte (r / 1000) (omega arith)) k.digits;
      value =
          omega (arith, value);
    })

decimals_5 : (r : ℕ) → r < 100000 → Decimals 10000 r (decimals_text 5 r)
decimals_5 r h =
    let k = decimals_4 (r % 10000) (omega arith) in
    let value = k.value in
    pick 10000 r (r == 0) _ refl
    (record {
      digits = digit (digit_byte (r / 10000) (omega arith)) k.digits;
      value =
          omega (arith, value);
    })

decimals_6 : (r : ℕ) → r < 1000000 → Decimals 100000 r (decimals_text 6 r)
decimals_6 r h =
    let k = decimals_5 (r % 100000) (omega arith) in
    let value = k.value in
    pick 100000 r (r == 0) _ refl
    (record {
      digits = digit (digit_byte (r / 100000) (omega arith)) k.digits;
      value =
          omega (arith, value);
    })

decimals_some : (r : ℕ) → (r == 0) ≡ false → 1 ≤ length (decimals_text 6 r)
decimals_some r e = rw e (omega arith)

weight_split : (n : ℕ) → number 0 (decimal (n / one_whole)) ≡ n / one_whole
    → number 0 (decimal (n / one_whole)) * one_whole ≡ n / one_whole * one_whole
weight_split n e = ap (λ k. k * one_whole) e

weight_at : (n : ℕ) (t : Bool) → (n % one_whole == 0) ≡ t → n < 10 ^ 12
    → SpellsWeight (decimal (n / one_whole) ++ cond t []
    (codes "." ++ decimals_text 6 (n % one_whole))) n
weight_at n true e h =
    let int = decimal_numeral (n / one_whole) (omega arith) in
    let few = length-decimal-le 6 (n / one_whole) (omega arith) (omega arith) (omega arith) in
    let rest : n % one_whole ≡ 0 = eqb-true (n % one_whole) 0 e in
    let same : number 0 (decimal (n / one_whole)) * one_whole ≡ n =
    weight_split n int.value ∙ omega arith in
    rw append-nil (subst (λ k. SpellsWeight (decimal (n / one_whole)) k) same
    (whole int.digits int.some few))
weight_at n false e h =
    let int = decimal_numeral (n / one_whole) (omega arith) in
    let few = length-decimal-le 6 (n / one_whole) (omega arith) (omega arith) (omega arith) in
    let ds = decimals_6 (n % one_whole) (omega arith) in
    let value = ds.value in
    let same : number 0 (decimal (n / one_whole)) * one_whole
    + fraction 100000 (decimals_text 6 (n % one_whole)) ≡ n
    = ap (λ k. k + fraction 100000 (decimals_text 6 (n % one_whole))) (weight_split n int.value)
    ∙ omega (arith, value) in
    subst₂ SpellsWeight (append_assoc (decimal (n / one_whole)) (codes ".")
    (decimals_text 6 (n % one_whole))) same
    (with_decimals int.digits few ds.digits (decimals_some (n % one_whole) e))

pub weight_spells : (n : ℕ) → n < 10 ^ 12 → SpellsWeight (canon_weight n) n
weight_spells n h = weight_at n (n % one_whole == 0) refl h
