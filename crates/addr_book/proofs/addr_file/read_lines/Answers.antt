use Rattle.std.proofs.Common.{arith}
use Rattle.addr_book.proofs.Files.{begins, ends, bad_line, blank_line, addr_line, bad_answer}
use Rattle.addr_book.proofs.Files.{addrs_answer}
use Rattle.addr_book.proofs.AddrLists.{no_weights, more_weights}
use Rattle.addr_book.proofs.addr_file.read_lines.Goals as goal

pub loop-at-init : goal.loop-at-init
loop-at-init c = record {
  lines = omega arith;
  weights = no_weights _ c.new-items.ensures.items;
  same = begins c.args.text.now _ c.new-items.ensures.items;
}

pub returns-in-Bad-clause-lines : goal.returns-in-Bad-clause-lines
returns-in-Bad-clause-lines c =
    bad_answer _ _ _
    (bad_line c.args.text.now c.loop-at.items.items c.loop-at.line c.loop-at.at
    c.cut_line-cut.result.stop c.cut_line-cut.result.next c.loop-at.invariant.same
    c.cut_line-cut.ensures.line _ c.in-Bad.is c.read_line.ensures.line) c.min.ensures

pub loop-at-preserved-in-Blank : goal.loop-at-preserved-in-Blank
loop-at-preserved-in-Blank c = record {
  lines = omega (arith, c.cut_line-cut.ensures.next.0);
  weights = c.loop-at.invariant.weights;
  same = blank_line c.args.text.now c.loop-at.items.items c.loop-at.line c.loop-at.at
      c.cut_line-cut.result.stop c.cut_line-cut.result.next c.loop-at.invariant.same
      c.cut_line-cut.ensures.line _ c.in-Blank.is c.read_line.ensures.line;
}

pub loop-at-preserved : goal.loop-at-preserved
loop-at-preserved c = record {
  lines = omega (arith, c.cut_line-cut.ensures.next.0);
  weights = more_weights _ _ _ c.in_ok-push-in-Item.ensures.items c.loop-at.invariant.weights
      c.in-Item.ensures.weight;
  same = rw c.in_ok-push-in-Item.ensures.items
      (addr_line c.args.text.now c.loop-at.items.items c.loop-at.line c.loop-at.at
      c.cut_line-cut.result.stop c.cut_line-cut.result.next
      c.loop-at.invariant.same c.cut_line-cut.ensures.line _ _ c.in-Item.is
      c.read_line.ensures.line);
}

pub returns-clause-lines : goal.returns-clause-lines
returns-clause-lines c = addrs_answer _ _
    (ends c.args.text.now c.loop-at.items.items c.loop-at.line c.loop-at.at
    c.loop-at.invariant.same c.loop-at-test.false)
