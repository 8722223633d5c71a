-- What a reader answers to a byte, and to the end of a text.
use Rattle.std.specs.Prelude.{◌≡◌, Option, Some, None, Result, Ok, Err}
use Rattle.name_tree.specs.declared.label.TakeError.{TakeError}
use Rattle.name_tree.specs.declared.label.TakeError.TheVariants.{Byte, OutOfMemory}

-- the reader took the byte in and is in the next state, or there is none
abbrev pub Takes : {S : Type 0} → Option S → S → Result (Unit {0}) TakeError → Type 0
Takes next new (Ok _) = next ≡ Some new
Takes next new (Err Byte) = next ≡ None
Takes next new (Err OutOfMemory) = Unit {0}

-- the reader gave the value that ends here, or there is none
abbrev pub Ends : {V X : Type 0} → (X → V) → Option V → Result X TakeError → Type 0
Ends view value (Ok x) = value ≡ Some (view x)
Ends view value (Err Byte) = value ≡ None
Ends view value (Err OutOfMemory) = Unit {0}
