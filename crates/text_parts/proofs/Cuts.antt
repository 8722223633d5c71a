-- Texts that are cut at the first byte of a value.
use Rattle.std.proofs.Common.{◌≡◌, ℕ, List, [], ◌∷◌, ◌++◌, Bool, true, false, Option, Some, None}
use Rattle.std.proofs.Common.{refl, ap, arith}
use Rattle.std.specs.Prelude.{◌==◌, if◌then◌else◌}
use Rattle.std.proofs.lemmas.Bool.Decides.{nat_tests}
use Rattle.text_parts.specs.Words.{before_byte, behind_byte}
use Rattle.text_parts.proofs.GapWords.{Lacks, lacks_none, lacks}

-- a text, and what stands before and behind the first byte of a value, if there is one
abbrev pub ByteCut : ℕ → List ℕ → List ℕ → Option (List ℕ) → Type 0
ByteCut mark text front None = text ≡ front
ByteCut mark text front (Some rest) = text ≡ front ++ mark ∷ rest

-- the byte is of that value
abbrev pub is_mark : ℕ → ℕ → Bool
is_mark mark b = b == mark

module _ (mark : ℕ) where
  mark_is : (b : ℕ) → (b == mark) ≡ true → b ≡ mark
  mark_is b h = grind (arith, nat_tests)

  one_more : (b : ℕ) (text front : List ℕ) (rest : Option (List ℕ)) → ByteCut mark text front rest
      → ByteCut mark (b ∷ text) (b ∷ front) rest
  one_more b text front None e = ap (λ (xs : List ℕ). b ∷ xs) e
  one_more b text front (Some rest) e = ap (λ (xs : List ℕ). b ∷ xs) e

  pub byte_cut : (text : List ℕ) → ByteCut mark text (before_byte mark text) (behind_byte mark text)
  byte_cut [] = refl
  byte_cut (b ∷ bs) = go (b == mark) refl (byte_cut bs)
    where
      go : (t : Bool) → (b == mark) ≡ t → ByteCut mark bs (before_byte mark bs)
          (behind_byte mark bs)
          → ByteCut mark (b ∷ bs) (if t then [] else b ∷ before_byte mark bs)
          (if t then Some bs else behind_byte mark bs)
      go true h rest = ap (λ x. x ∷ bs) (mark_is b h)
      go false h rest = one_more b bs (before_byte mark bs) (behind_byte mark bs) rest

  pub before_first : (b : ℕ) (bs : List ℕ) → is_mark mark b ≡ false
      → before_byte mark (b ∷ bs) ≡ b ∷ before_byte mark bs
  before_first b bs h = rw h refl

  pub before_all : {s : List ℕ} → Lacks (is_mark mark) s → before_byte mark s ≡ s
  before_all lacks_none = refl
  before_all (lacks {b = b} h r) = rw h (ap (λ (xs : List ℕ). b ∷ xs) (before_all r))

  pub behind_all : {s : List ℕ} → Lacks (is_mark mark) s → behind_byte mark s ≡ None
  behind_all lacks_none = refl
  behind_all (lacks h r) = rw h (behind_all r)

  self_is : (mark == mark) ≡ true
  self_is = grind (arith, nat_tests)

  pub before_at : {s : List ℕ} → Lacks (is_mark mark) s → (rest : List ℕ)
      → before_byte mark (s ++ mark ∷ rest) ≡ s
  before_at lacks_none rest = rw self_is refl
  before_at (lacks {b = b} h r) rest = rw h (ap (λ (xs : List ℕ). b ∷ xs) (before_at r rest))

  pub behind_at : {s : List ℕ} → Lacks (is_mark mark) s → (rest : List ℕ)
      → behind_byte mark (s ++ mark ∷ rest) ≡ Some rest
  behind_at lacks_none rest = rw self_is refl
  behind_at (lacks h r) rest = rw h (behind_at r rest)
