-- What is left of a request whose context is cleared.
use Rattle.std.specs.Prelude.{◌≡◌, false, [], All, Some}
use Rattle.http_wire.specs.declared.head.Field.{Field}
use Rattle.http_wire.specs.declared.head.Head.{Head}
use Rattle.identifier.specs.Context.{is_context, without_context}
use Rattle.identifier.specs.Local.{local_rules}

-- no field of the context is left
abbrev pub NoContextIsLeft : Type 0
NoContextIsLeft =
    (head : Head) → All (λ (field : Field). is_context field ≡ false) (without_context head).fields

-- and the request brings no rules along
abbrev pub NoTableIsLeft : Type 0
NoTableIsLeft = (head : Head) → local_rules (without_context head).fields ≡ Some []
