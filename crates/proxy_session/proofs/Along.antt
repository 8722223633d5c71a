-- What is made of a fact stays the same where the fact is carried along an equation.
use Rattle.std.proofs.Common.{◌≡◌, subst}

pub same_along : {A D : Type 0} (P : A → Type 0) (f : (a : A) → P a → D) {a b : A} (e : a ≡ b)
    (x : P a) → f a x ≡ f b (subst P e x)
same_along P f e x = λ i. f (e i) (coe 0 i (j. P (e j)) x)
