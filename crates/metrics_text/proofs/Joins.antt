-- Texts that are put one behind the other.
use Rattle.std.proofs.Common.{◌≡◌, ℕ, List, ◌++◌, sym, ap, ◌∙◌, append_assoc, Result, Ok, Err}
use Rattle.std.specs.Result.{OnOk}

-- one text more
pub more : (o0 o1 o2 a b : List ℕ) → o1 ≡ o0 ++ a → o2 ≡ o1 ++ b → o2 ≡ o0 ++ (a ++ b)
more o0 o1 o2 a b first second =
    second ∙ (ap (λ (o : List ℕ). o ++ b) first ∙ append_assoc o0 a b)

-- the last one, where there was memory for it
pub last : {T E : Type 0} (r : Result T E) (o0 o1 o2 a b : List ℕ) → o1 ≡ o0 ++ a
    → OnOk r (o2 ≡ o1 ++ b) → OnOk r (o2 ≡ o0 ++ (a ++ b))
last (Ok x) o0 o1 o2 a b first second = more o0 o1 o2 a b first second
last (Err e) o0 o1 o2 a b first second = tt
