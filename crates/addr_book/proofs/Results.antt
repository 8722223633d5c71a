-- Answers of calls that are handed on.
use Rattle.std.proofs.Common.{Result, Ok, Err}
use Rattle.std.specs.Prelude.{IfOk}

pub ok_with : {A E : Type 0} (P Q : A → Type 0) (r : Result A E) → IfOk r P → ((x : A) → P x → Q x)
    → IfOk r Q
ok_with P Q (Ok x) h f = f x h
ok_with P Q (Err e) h f = tt
