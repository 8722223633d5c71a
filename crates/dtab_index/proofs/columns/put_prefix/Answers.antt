use Rattle.dtab_index.proofs.Known.{keep_more}
use Rattle.dtab_index.proofs.columns.put_prefix.Goals as goal

pub put_labels-requires-clause-blank : goal.put_labels-requires-clause-blank
put_labels-requires-clause-blank c =
    (c.make_columns.ensures.kept c.args.place).blank c.requires.blank

pub returns-clause-kept : goal.returns-clause-kept
returns-clause-kept c = λ other ne.
    keep_more other c.args.columns.now.items c.make_columns.new.columns.items
    c.put_labels.new.columns.items (c.make_columns.ensures.kept other)
    (c.put_labels.ensures.kept other ne)
