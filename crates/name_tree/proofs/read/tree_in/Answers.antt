use Rattle.std.proofs.Common.{◌≤◌, ◌<◌, length, arith}
use Rattle.name_tree.specs.Grammar.{TreeText}
use Rattle.name_tree.specs.TreeReading.{next_state, ended_state}
use Rattle.name_tree.specs.TreeReaders.{place_of}
use Rattle.name_tree.proofs.TreeLaws.{tree_laws, tree_counts, tree_start, tree_depth}
use Rattle.name_tree.proofs.Places.{goes_on, nested, leaves, leaves_at_end, stands_at_end}
use Rattle.name_tree.proofs.read.tree_in.Goals as goal

pub returns-in-Err-Byte : goal.returns-in-Err-Byte
returns-in-Err-Byte c =
    leaves next_state tree_start tree_depth tree_counts ended_state TreeText tree_laws _ _ _
    c.loop-at.invariant.stands c.if-text-gt-MOST_BYTES.false c.loop-at-test.true
    (rw c.in-Err-Byte.field-0-is at c.in-Err-Byte.ensures)

pub returns-then-depth-gt-MOST_OPEN : goal.returns-then-depth-gt-MOST_OPEN
returns-then-depth-gt-MOST_OPEN c =
    let many : 64 < length (place_of c.take.new.self).outer =
    omega (arith, c.depth.ensures, c.if-depth-gt-MOST_OPEN.true) in
    nested next_state tree_start tree_depth tree_counts ended_state TreeText tree_laws _ _ _ _
    c.loop-at.invariant.stands c.if-text-gt-MOST_BYTES.false c.loop-at-test.true c.in-Ok.ensures
    c.loop-at.invariant.few many

pub loop-at-preserved : goal.loop-at-preserved
loop-at-preserved c =
    let few : length (place_of c.take.new.self).outer ≤ 64 =
    omega (arith, c.depth.ensures, c.if-depth-gt-MOST_OPEN.false) in
    record {
      stands = goes_on next_state tree_start tree_depth tree_counts _ _ _ _
          c.loop-at.invariant.stands c.loop-at-test.true c.in-Ok.ensures few;
      few = few;
    }

pub returns-in-Ok-end : goal.returns-in-Ok-end
returns-in-Ok-end c =
    stands_at_end next_state tree_start tree_depth tree_counts ended_state TreeText tree_laws _ _ _
    _ c.loop-at.invariant.stands c.if-text-gt-MOST_BYTES.false c.loop-at-test.false
    c.in-Ok-end.ensures

pub returns-in-Err-Byte-end : goal.returns-in-Err-Byte-end
returns-in-Err-Byte-end c =
    leaves_at_end next_state tree_start tree_depth tree_counts ended_state TreeText tree_laws _ _ _
    c.loop-at.invariant.stands c.if-text-gt-MOST_BYTES.false c.loop-at-test.false
    (rw c.in-Err-Byte-end.field-0-is at c.in-Err-Byte-end.ensures)
