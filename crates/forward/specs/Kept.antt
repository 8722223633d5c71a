-- The fields that are left, by the names that were lowered and put in order.
use Rattle.std.specs.Prelude.{ℕ, Bool, ◌&&◌, not, List, filter}
use Rattle.http_wire.specs.declared.head.Field.{Field}
use Rattle.forward.specs.declared.listed.Listed.{Listed}
use Rattle.forward.specs.Dropped.{has_name_of}
use Rattle.forward.specs.Listed.{is_among_lowered}

-- the field has none of these names, and none of those that are listed
abbrev pub is_left : List (List ℕ) → Listed → Field → Bool
is_left never listed field =
    not (has_name_of never field) && not (is_among_lowered listed.names.items field.name)

-- the fields of which this holds
unfoldable pub left_by : List (List ℕ) → Listed → List Field → List Field
left_by never listed fields = filter (is_left never listed) fields
