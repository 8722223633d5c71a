use Rattle.std.proofs.Common.{◌≤◌, ◌<◌, List, arith, map, sym, ap, subst}
use Rattle.std.proofs.lemmas.List.{length-map}
use Rattle.name_tree.proofs.Places.{goes_on, nested, leaves, leaves_at_end, stands_at_end}
use Rattle.dtab_table.specs.TableGrammar.{DtabText}
use Rattle.dtab_table.specs.TableReading.{table_start, next_state, ended_state, table_depth}
use Rattle.dtab_table.specs.TableReaders.{depth_of}
use Rattle.dtab_table.specs.Answers.{IsTable}
use Rattle.dtab_table.specs.Rules.{Rule, rule_of}
use Rattle.dtab_table.proofs.TableLaws.{table_laws, table_counts}
use Rattle.dtab_table.proofs.read.entries_in.Goals as goal

pub returns-in-Err-Byte : goal.returns-in-Err-Byte
returns-in-Err-Byte c =
    leaves next_state table_start table_depth table_counts ended_state DtabText table_laws _ _ _
    c.loop-at.invariant.stands c.if-text-gt-MOST_BYTES.false c.loop-at-test.true
    (rw c.in-Err-Byte.field-0-is at c.in-Err-Byte.ensures)

pub returns-then-depth-gt-MOST_OPEN : goal.returns-then-depth-gt-MOST_OPEN
returns-then-depth-gt-MOST_OPEN c =
    let many : 64 < depth_of c.take.new.self =
    omega (arith, c.depth.ensures, c.if-depth-gt-MOST_OPEN.true) in
    nested next_state table_start table_depth table_counts ended_state DtabText table_laws _ _ _ _
    c.loop-at.invariant.stands c.if-text-gt-MOST_BYTES.false c.loop-at-test.true c.in-Ok.ensures
    c.loop-at.invariant.few many

pub loop-at-preserved : goal.loop-at-preserved
loop-at-preserved c =
    let few : depth_of c.take.new.self ≤ 64 =
    omega (arith, c.depth.ensures, c.if-depth-gt-MOST_OPEN.false) in
    record {
      stands = goes_on next_state table_start table_depth table_counts _ _ _ _
          c.loop-at.invariant.stands c.loop-at-test.true c.in-Ok.ensures few;
      few = few;
    }

pub returns-in-Err-Byte-end : goal.returns-in-Err-Byte-end
returns-in-Err-Byte-end c =
    leaves_at_end next_state table_start table_depth table_counts ended_state DtabText table_laws _
    _ _ c.loop-at.invariant.stands c.if-text-gt-MOST_BYTES.false c.loop-at-test.false
    (rw c.in-Err-Byte-end.field-0-is at c.in-Err-Byte-end.ensures)

pub returns-then-count-gt-MOST_ENTRIES : goal.returns-then-count-gt-MOST_ENTRIES
returns-then-count-gt-MOST_ENTRIES c = record {
  rules = map rule_of c.in-Ok-end.entries.items;
  value = stands_at_end next_state table_start table_depth table_counts ended_state DtabText
      table_laws _ _ _ _ c.loop-at.invariant.stands c.if-text-gt-MOST_BYTES.false
      c.loop-at-test.false c.in-Ok-end.ensures;
  same = omega (arith, c.len-count.ensures, length-map c.in-Ok-end.entries.items rule_of);
  many = omega (
    arith,
    c.len-count.ensures,
    length-map c.in-Ok-end.entries.items rule_of,
    c.if-count-gt-MOST_ENTRIES.true,
  );
}

pub returns : goal.returns
returns c =
    subst (λ (rules : List Rule). IsTable c.args.text.now rules)
    (sym (ap (map rule_of) c.of.ensures)) (record {
      value = stands_at_end next_state table_start table_depth table_counts ended_state DtabText
          table_laws _ _ _ _ c.loop-at.invariant.stands c.if-text-gt-MOST_BYTES.false
          c.loop-at-test.false c.in-Ok-end.ensures;
      few = omega (
        arith,
        c.len-count.ensures,
        length-map c.in-Ok-end.entries.items rule_of,
        c.if-count-gt-MOST_ENTRIES.false,
      );
    })
