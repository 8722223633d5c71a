-- What is known of a result, handed on.
use Rattle.std.proofs.Common.{Result, Ok, Err}
use Rattle.std.specs.Prelude.{IfOk, OnOk, OnErr}

pub on_ok : {T E : Type 0} {P Q : Type 0} (r : Result T E) → OnOk r P → (P → Q) → OnOk r Q
on_ok (Ok v) p f = f p
on_ok (Err e) p f = tt

pub on_err : {T E : Type 0} {P Q : Type 0} (r : Result T E) → OnErr r P → (P → Q) → OnErr r Q
on_err (Ok v) p f = tt
on_err (Err e) p f = f p

pub if_err : {T E : Type 0} {P : Type 0} (r : Result T E) → P → OnErr r P
if_err (Ok v) p = tt
if_err (Err e) p = p

pub if_ok : {T E : Type 0} (P Q : T → Type 0) (r : Result T E) → IfOk r P → ((v : T) → P v → Q v)
    → IfOk r Q
if_ok P Q (Ok v) p f = f v p
if_ok P Q (Err e) p f = tt
