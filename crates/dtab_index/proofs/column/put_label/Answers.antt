use Rattle.std.proofs.Common.{List, ℕ, ap, ◌∙◌}
use Rattle.std.specs.Prelude.{◌||◌, ◌==◌}
use Rattle.dtab_index.specs.Columns.{row_of, in_row}
use Rattle.dtab_index.proofs.Rows.{row_put}
use Rattle.dtab_index.proofs.column.put_label.Goals as goal

pub returns-clause-said : goal.returns-clause-said
returns-clause-said c =
    row_put c.args.rows.now c.insert.new.self c.args.label c.put.new.self
    c.in_ok-insert.ensures.updates c.args.place
    (λ other.
    c.put.ensures other
    ∙ ap (λ b. c.args.place == other || b)
    (c.row_at-row.ensures other ∙ ap (λ (l : List ℕ). in_row (row_of c.args.rows.now l) other)
    c.as_slice.ensures.value))
