-- Bytes that open and close no parenthesis.
use Rattle.std.proofs.Common.{◌≡◌, ℕ, true, false, refl, sym, subst}
use Rattle.std.specs.Prelude.{◌==◌}
use Rattle.std.proofs.lemmas.Bool.{eqb-true, true≢false}
use Rattle.name_tree.specs.Path.{is_plain}
use Rattle.name_tree.specs.Grammar.{is_blank}
use Rattle.name_tree.specs.Faults.{open_after}
use Rattle.name_tree.specs.LabelReading.{is_path_byte}
use Rattle.name_tree.proofs.Bytes.{fails, each_blank}

-- a byte that is no parenthesis leaves the depth as it is
quiet : (n b : ℕ) → (b == 40) ≡ false → (b == 41) ≡ false → open_after n b ≡ n
quiet n b p q = rw (p, q) refl

pub quiet_at : (n b c : ℕ) → b ≡ c → open_after n c ≡ n → open_after n b ≡ n
quiet_at n b c e h = rw e h

pub quiet_blank : (n b : ℕ) → is_blank b ≡ true → open_after n b ≡ n
quiet_blank n b h = each_blank (λ c. open_after n c ≡ n) refl refl refl refl b h

pub quiet_path : (n b : ℕ) → is_path_byte b ≡ true → open_after n b ≡ n
unfolding is_plain
quiet_path n b h =
    let P : ℕ → Type 0 = λ c. is_path_byte c ≡ true in
    quiet n b (fails (b == 40) (λ e. true≢false (sym (subst P (eqb-true b 40 e) h))))
    (fails (b == 41) (λ e. true≢false (sym (subst P (eqb-true b 41 e) h))))
