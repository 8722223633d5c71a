-- The rows of a column after one is put in.
use Rattle.std.proofs.Common.{◌≡◌, ⊎_elim, ℕ, List, Bool, true, false, Some, Vec, Global, refl, sym}
use Rattle.std.proofs.Common.{ap, ◌∙◌}
use Rattle.std.specs.Cmp.Lexicographic.{bytes_decides, nat_list_eq_equiv}
use Rattle.std.specs.HashMap as hash
use Rattle.std.specs.HashMap.{HashMap}
use Rattle.std.specs.Map.{lookup, IsKeyTest, AreApart, KeepsOthers}
use Rattle.std.specs.Prelude.{◌&&◌, ◌||◌, ◌==◌}
use Rattle.std.specs.Str.{bytes_eq}
use Rattle.std.proofs.lemmas.Bool.{cases_Bool, false≢true}
use Rattle.dtab_index.specs.Bits.{has}
use Rattle.dtab_index.specs.Columns.{row_of, in_row}
use Rattle.dtab_index.specs.Index.{Label}
use Rattle.dtab_index.specs.declared.bits.Bits.{Bits}

other_entries : {K X : Type 0} (eq : K → K → Bool) (test : K → Bool) (old new : List (K × X))
    → KeepsOthers eq test old new → (other : K → Bool) → IsKeyTest eq other → AreApart test other
    → lookup other new ≡ lookup other old
unfolding KeepsOthers
other_entries eq test old new h = h

apart : (bs cs ks : List ℕ) → bytes_eq bs cs ≡ false → bytes_eq bs ks ≡ true
    → bytes_eq cs ks ≡ false
apart bs cs ks ne e =
    ⊎_elim
    (λ (y : bytes_eq cs ks ≡ true). absurd
    (false≢true (sym ne ∙ (bytes_decides bs cs).1
    ((bytes_decides bs ks).0 e ∙ sym ((bytes_decides cs ks).0 y)))))
    (λ (n : bytes_eq cs ks ≡ false). n)
    (cases_Bool (bytes_eq cs ks))

or_none : (b c : Bool) → b ≡ false → (b || c) ≡ c
or_none b c e = ap (λ x. x || c) e

and_all : (b c : Bool) → c ≡ true → (b && c) ≡ b
and_all true c e = e
and_all false c e = refl

and_none : (b c : Bool) → c ≡ false → (b && c) ≡ false
and_none true c e = e
and_none false c e = refl

module _ {S : Type 0} (old new : HashMap (Vec ℕ Global) Bits S) (label : Vec ℕ Global) (row : Bits)
    (put : hash.UpdatesBy (λ x y. bytes_eq x.items y.items)
    (λ y. bytes_eq label.items y.items) old new (Some row)) where
  row_here : (l : Label) → bytes_eq label.items l ≡ true → row_of new l ≡ Some row
  row_here l e = ap (λ (k : Label). row_of new k) (sym ((bytes_decides label.items l).0 e)) ∙ put.1

  row_apart : (l : Label) → bytes_eq label.items l ≡ false → row_of new l ≡ row_of old l
  row_apart l ne =
      other_entries (λ x y. bytes_eq x.items y.items) (λ y. bytes_eq label.items y.items)
      old.entries new.entries put.3 (λ y. bytes_eq l y.items)
      (λ x y. nat_list_eq_equiv.congr l x.items y.items) (λ k. apart label.items l k.items ne)

  -- the row of a label, where a place was put into it
  pub row_put : (place : ℕ)
      → ((other : ℕ) → has row.words other
      ≡ (place == other || in_row (row_of old label.items) other)) → (l : Label) (other : ℕ)
      → in_row (row_of new l) other
      ≡ ((place == other && bytes_eq label.items l) || in_row (row_of old l) other)
  row_put place is l other =
      ⊎_elim
      (λ (e : bytes_eq label.items l ≡ true).
      ap (λ r. in_row r other) (row_here l e)
      ∙ (is other
      ∙ (ap (λ (k : Label). place == other || in_row (row_of old k) other)
      ((bytes_decides label.items l).0 e)
      ∙ ap (λ b. b || in_row (row_of old l) other)
      (sym (and_all (place == other) (bytes_eq label.items l) e)))))
      (λ (ne : bytes_eq label.items l ≡ false).
      ap (λ r. in_row r other) (row_apart l ne)
      ∙ sym (or_none (place == other && bytes_eq label.items l) (in_row (row_of old l) other)
      (and_none (place == other) (bytes_eq label.items l) ne)))
      (cases_Bool (bytes_eq label.items l))
