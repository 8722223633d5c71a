use Rattle.std.specs.Option.{option_and_then}
use Rattle.name_tree.specs.Computed.{path_of}
use Rattle.http_wire.specs.Fields.{first_value}
use Rattle.identifier.specs.Naming.{first_of, path_in, pieces_of}
use Rattle.identifier.proofs.naming.identify.Goals as goal

pub returns-in-Segments : goal.returns-in-Segments
returns-in-Segments c form served =
    rw c.in-Segments.is (c.behind.ensures
    (first_of c.in-Segments.count (pieces_of (path_in form.line))) (c.segments.ensures form served))

pub returns-in-PathField : goal.returns-in-PathField
returns-in-PathField c form served =
    rw c.in-PathField.is
    (c.behind-in-PathField.ensures
    (option_and_then path_of (first_value c.in-PathField.name c.args.head.now.fields))
    c.path_field.ensures)
