-- The fields by which a request says how it is to be routed.
use Rattle.std.specs.Prelude.{ℕ, Bool, ◌||◌, not, if◌then◌else◌, List, filter, take, codes}
use Rattle.http_wire.specs.declared.head.Field.{Field}
use Rattle.http_wire.specs.declared.head.Head.{Head}
use Rattle.http_wire.specs.Fields.{is_named, same_ignoring_case}

-- the client's own table, or a field by which a router tells the next one of the request: its name
-- begins with `l5d-ctx-`, in any case
abbrev pub is_context : Field → Bool
is_context field =
    is_named (codes "l5d-dtab") field
    || same_ignoring_case (take 8 field.name) (codes "l5d-ctx-")

-- the head without these fields
abbrev pub without_context : Head → Head
without_context head = record {
  method = head.method;
  target = head.target;
  version = head.version;
  fields = filter (λ field. not (is_context field)) head.fields;
}

-- the head as it is heard
abbrev pub heard_by : Bool → Head → Head
heard_by clears head = if clears then without_context head else head
