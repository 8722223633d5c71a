use Rattle.std.proofs.Common.{arith}
use Rattle.name_tree.specs.Grammar.{PathText}
use Rattle.name_tree.specs.PathReading.{before, next_path, end_path}
use Rattle.name_tree.proofs.PathLaws.{path_laws, path_counts}
use Rattle.name_tree.proofs.Places.{goes_on, leaves, leaves_at_end, stands_at_end}
use Rattle.name_tree.proofs.read.path_in.Goals as goal

pub returns-in-Err-Byte : goal.returns-in-Err-Byte
returns-in-Err-Byte c =
    leaves next_path before (λ _. 0) path_counts end_path PathText path_laws _ _ _
    c.loop-at.invariant c.if-text-gt-MOST_BYTES.false c.loop-at-test.true
    (rw c.in-Err-Byte.field-0-is at c.in-Err-Byte.ensures)

pub loop-at-preserved : goal.loop-at-preserved
loop-at-preserved c = goes_on next_path before (λ _. 0) path_counts _ _ _ _ c.loop-at.invariant
    c.loop-at-test.true c.in-Ok.ensures (omega arith)

pub returns-in-Ok-end : goal.returns-in-Ok-end
returns-in-Ok-end c =
    stands_at_end next_path before (λ _. 0) path_counts end_path PathText path_laws _ _ _ _
    c.loop-at.invariant c.if-text-gt-MOST_BYTES.false c.loop-at-test.false c.in-Ok-end.ensures

pub returns-in-Err-Byte-end : goal.returns-in-Err-Byte-end
returns-in-Err-Byte-end c =
    leaves_at_end next_path before (λ _. 0) path_counts end_path PathText path_laws _ _ _
    c.loop-at.invariant c.if-text-gt-MOST_BYTES.false c.loop-at-test.false
    (rw c.in-Err-Byte-end.field-0-is at c.in-Err-Byte-end.ensures)
