-- What holds of the value that is there.
use Rattle.std.proofs.Common.{◌≡◌, Option, Some, Result, Ok, Err, MatchResult, IsSome, rules, sym}
use Rattle.std.proofs.Common.{subst}

pub in_some : {A : Type 0} (P : A → Type 0) (a : A) → P a → (x : A) → Some a ≡ Some x → P x
in_some P a holds x is = let same : a ≡ x = cc is in subst P same holds

pub at_ok : {T E : Type 0} (P : T → Type 0) (Q : E → Type 0) (r : Result T E) (u : T)
    → MatchResult r P Q → r ≡ Ok u → P u
at_ok P Q r u m is = subst (λ s. MatchResult s P Q) is m

pub at_err : {T E : Type 0} (P : T → Type 0) (Q : E → Type 0) (r : Result T E) (e : E)
    → MatchResult r P Q → r ≡ Err e → Q e
at_err P Q r e m is = subst (λ s. MatchResult s P Q) is m

pub there : {A : Type 0} (o : Option A) (a : A) → o ≡ Some a → IsSome o
there o a is = let one : IsSome (Some a) = search rules in subst (λ z. IsSome z) (sym is) one
