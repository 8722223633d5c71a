use Rattle.std.proofs.Common.{◌∙◌, ap, sym}
use Rattle.std.proofs.lemmas.Result.{err_from_is_err_and}
use Rattle.identifier.proofs.Tables.{behind, ended, goes_on, stops, values_behind}
use Rattle.identifier.proofs.local.add_tables.Goals.{then-is+in_ok-add_table, else-is}
use Rattle.identifier.proofs.local.add_tables.Goals as goal

pub returns-in_err-add_table : goal.returns-in_err-add_table
returns-in_err-add_table c =
    let p = err_from_is_err_and c.from_residual.result c.from_residual.ensures.1 in
    rw (p.1, p.2)
    (stops c.args.entries.now.items c.loop-field.entries.items c.add_table.new.entries.items
    c.args.name.now c.bytes.result.now c.args.fields.now
    c.loop-field.field-index c.field-item.result c.in_err-add_table.field-0.0
    c.loop-field-test.true c.field-item.is
    (sym c.is.ensures ∙ c.if-is.true) c.bytes.ensures c.loop-field.invariant
    c.in_err-add_table.ensures)

pub loop-field-preserved : goal.loop-field-preserved
loop-field-preserved c =
    elim c.if-is.branch [
      | then-is+in_ok-add_table w ↦
          rw w.entries-is
          (goes_on c.args.entries.now.items c.loop-field.entries.items
          w.add_table.new.entries.items c.args.name.now w.bytes.result.now c.args.fields.now
          c.loop-field.field-index c.field-item.result c.loop-field-test.true c.field-item.is
          (sym c.is.ensures ∙ w.if-is.true) w.bytes.ensures c.loop-field.invariant
          w.in_ok-add_table.ensures)
      | else-is w ↦
          rw w.entries-is
          (ap (behind c.loop-field.entries.items)
          (sym (values_behind c.args.name.now c.args.fields.now c.loop-field.field-index
          c.field-item.result
          c.loop-field-test.true c.field-item.is (sym c.is.ensures ∙ w.if-is.false)))
          ∙ c.loop-field.invariant)
    ]

pub returns : goal.returns
returns c = ended c.args.entries.now.items c.loop-field.entries.items c.args.name.now
    c.args.fields.now c.loop-field.field-index c.loop-field-test.false c.loop-field.invariant
