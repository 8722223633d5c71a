use Rattle.std.proofs.Common.{ap, sym, ◌∙◌}
use Rattle.std.proofs.lemmas.List.{take_all}
use Rattle.name_tree.specs.Recogniser.{run}
use Rattle.name_tree.proofs.Recognisers.{run_more, fault_at, fault_at_end, value_at_end}
use Rattle.dtab_table.specs.TableGrammar.{PrefixText}
use Rattle.dtab_table.specs.PrefixReading.{before, next_prefix, end_prefix}
use Rattle.dtab_table.specs.Readers.{prefix_at_of}
use Rattle.dtab_table.proofs.PrefixLaws.{prefix_laws}
use Rattle.dtab_table.proofs.read.prefix_in.Goals as goal

pub returns-in-Err-Byte : goal.returns-in-Err-Byte
returns-in-Err-Byte c =
    (fault_at next_prefix end_prefix before PrefixText prefix_laws c.args.text.now
    c.loop-byte.byte-index (prefix_at_of c.loop-byte.reader) c.loop-byte-test.true
    c.loop-byte.invariant
    (rw c.in-Err-Byte.field-0-is at c.in-Err-Byte.ensures)).1

pub loop-byte-preserved : goal.loop-byte-preserved
loop-byte-preserved c =
    run_more next_prefix before (prefix_at_of c.loop-byte.reader) c.args.text.now
    c.loop-byte.byte-index c.loop-byte-test.true c.loop-byte.invariant ∙ c.in-Ok.ensures

pub returns-in-Ok-end : goal.returns-in-Ok-end
returns-in-Ok-end c =
    value_at_end next_prefix end_prefix before PrefixText prefix_laws c.args.text.now
    (prefix_at_of c.loop-byte.reader) _
    (ap (run next_prefix before)
    (sym (take_all c.loop-byte.byte-index c.args.text.now c.loop-byte-test.false))
    ∙ c.loop-byte.invariant) c.in-Ok-end.ensures

pub returns-in-Err-Byte-end : goal.returns-in-Err-Byte-end
returns-in-Err-Byte-end c =
    (fault_at_end next_prefix end_prefix before PrefixText prefix_laws c.args.text.now
    (prefix_at_of c.loop-byte.reader)
    (ap (run next_prefix before)
    (sym (take_all c.loop-byte.byte-index c.args.text.now c.loop-byte-test.false))
    ∙ c.loop-byte.invariant)
    (rw c.in-Err-Byte-end.field-0-is at c.in-Err-Byte-end.ensures)).1
