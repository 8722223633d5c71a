use Rattle.std.proofs.Common.{◌≡◌, ◌≤◌, ◌<◌, ◌∙◌, ap, sym, subst, arith, length, map, List, Err}
use Rattle.std.proofs.Common.{Some, None}
use Rattle.std.proofs.lemmas.Result.{err_from_is_err_and}
use Rattle.http_wire.specs.declared.head.Field.{Field}
use Rattle.dtab_table.specs.Dtab.{rules_of}
use Rattle.dtab_table.specs.Rules.{rule_of}
use Rattle.dtab_table.specs.Answers.{most_entries}
use Rattle.identifier.specs.Local.{local_rules, Gives}
use Rattle.identifier.proofs.Sounds.{sound_local}
use Rattle.identifier.proofs.Tables.{all_joined, few, first_refused, many, second_refused}
use Rattle.identifier.proofs.local.local_dtab.Goals as goal

pub returns-in_err-add_tables-clause-rules : goal.returns-in_err-add_tables-clause-rules
returns-in_err-add_tables-clause-rules c =
    let p = err_from_is_err_and c.from_residual.result c.from_residual.ensures.1 in
    rw (p.1, p.2)
    (subst (λ (fs : List Field). Gives (local_rules fs) (Err c.in_err-add_tables.field-0.0))
    c.items-fields.ensures
    (first_refused c.items-fields.result.now c.new-entries.result.items
    c.add_tables.new.entries.items c.in_err-add_tables.field-0.0 c.in_err-add_tables.ensures))

pub returns-in_err-add_tables-2-clause-rules : goal.returns-in_err-add_tables-2-clause-rules
returns-in_err-add_tables-2-clause-rules c =
    let p = err_from_is_err_and c.from_residual-in_err-add_tables-2.result
    c.from_residual-in_err-add_tables-2.ensures.1 in
    rw (p.1, p.2)
    (subst (λ (fs : List Field). Gives (local_rules fs) (Err c.in_err-add_tables-2.field-0.0))
    c.items-fields.ensures
    (second_refused c.items-fields.result.now c.add_tables.new.entries.items
    c.add_tables-2.new.entries.items c.in_err-add_tables-2.field-0.0 c.in_err-add_tables-2.ensures))

pub returns-then-len-gt-MOST_ENTRIES-clause-rules :
    goal.returns-then-len-gt-MOST_ENTRIES-clause-rules
returns-then-len-gt-MOST_ENTRIES-clause-rules c =
    let whole = all_joined c.items-fields.result.now c.new-entries.result.items
    c.add_tables.new.entries.items c.add_tables-2.new.entries.items c.new-entries.ensures.items
    c.in_ok-add_tables.ensures c.in_ok-add_tables-2.ensures in
    let past : most_entries < length c.add_tables-2.new.entries.items =
    omega (arith, c.if-len-gt-MOST_ENTRIES.true, c.len.ensures, c.add_tables-2.new.entries.ok.0) in
    subst (λ (fs : List Field). local_rules fs ≡ None) c.items-fields.ensures
    (many c.items-fields.result.now c.add_tables-2.new.entries.items whole past)

pub returns-clause-rules : goal.returns-clause-rules
returns-clause-rules c =
    let whole = all_joined c.items-fields.result.now c.new-entries.result.items
    c.add_tables.new.entries.items c.add_tables-2.new.entries.items c.new-entries.ensures.items
    c.in_ok-add_tables.ensures c.in_ok-add_tables-2.ensures in
    let within : length c.add_tables-2.new.entries.items ≤ most_entries =
    omega (arith, c.if-len-gt-MOST_ENTRIES.false, c.len.ensures, c.add_tables-2.new.entries.ok.0) in
    subst (λ (fs : List Field). local_rules fs
    ≡ Some (map rule_of c.add_tables-2.new.entries.items)) c.items-fields.ensures
    (few c.items-fields.result.now c.add_tables-2.new.entries.items whole within)
    ∙ ap Some (sym (c.in_ok-of.ensures ∙ ap (map rule_of) c.of.ensures))

pub returns-clause-sound : goal.returns-clause-sound
returns-clause-sound c = sound_local c.args.head.now.fields (rules_of c.in_ok-of.field-0)
    (returns-clause-rules c)
