-- What holds of an answer, whichever way a test goes.
use Rattle.std.proofs.Common.{◌≡◌, Bool, true, false, cond, Option, Some, None, option_map, refl}
use Rattle.std.specs.Prelude.{IfSome}

pub if_test : {A : Type 0} (P : A → Type 0) (t : Bool) (x y : Option A) → (t ≡ true → IfSome x P)
    → (t ≡ false → IfSome y P) → IfSome (cond t x y) P
if_test P true x y f g = f refl
if_test P false x y f g = g refl

pub if_mapped : {A B : Type 0} (P : B → Type 0) (f : A → B) (o : Option A)
    → ((x : A) → o ≡ Some x → P (f x)) → IfSome (option_map f o) P
if_mapped P f None h = tt
if_mapped P f (Some x) h = h x refl

pub if_mapped_from : {A B : Type 0} (P : B → Type 0) (Q : A → Type 0) (f : A → B) (o : Option A)
    → IfSome o Q → ((x : A) → Q x → P (f x)) → IfSome (option_map f o) P
if_mapped_from P Q f None q h = tt
if_mapped_from P Q f (Some x) q h = h x q
