use Rattle.std.proofs.Common.{ap, ◌∙◌, ◌∷◌, drop, set, length-set, arith}
use Rattle.body_wire.proofs.Digits.{begins, line_end, digit_before, last_digit, one_digit}
use Rattle.body_wire.proofs.Digits.{no_digits}
use Rattle.body_wire.proofs.size.write_line.Goals as goal

pub loop-start-init : goal.loop-start-init
loop-start-init c = record {
  within = omega arith;
  room = length-set (set c.args.line.now 64 13) 65 10 ∙ length-set c.args.line.now 64 13
      ∙ c.told-line;
  line = begins c.args.size _ (line_end c.args.line.now c.told-line);
}

pub loop-start-preserved : goal.loop-start-preserved
loop-start-preserved c =
    let l = c.loop-start in record {
      within = omega arith;
      room = length-set l.line _ _ ∙ l.invariant.room;
      line = one_digit l.start l.left c.args.size _ _ c.loop-start-test.true c.if-left-eq0.false
          (digit_before l.line l.start c.hex_digit.result c.loop-start-test.true (omega arith)
          ∙ ap (λ d. d ∷ drop l.start l.line) c.hex_digit.ensures)
          l.invariant.line;
    }

pub returns-after-loop-start-clause-line : goal.returns-after-loop-start-clause-line
returns-after-loop-start-clause-line c =
    let l = c.loop-start in no_digits l.left c.args.size _ l.start (omega arith) l.invariant.line

pub returns-then-left-eq0-clause-line : goal.returns-then-left-eq0-clause-line
returns-then-left-eq0-clause-line c =
    let l = c.loop-start in
    last_digit l.start l.left c.args.size _ _ c.loop-start-test.true c.if-left-eq0.true
    (digit_before l.line l.start c.hex_digit.result c.loop-start-test.true (omega arith)
    ∙ ap (λ d. d ∷ drop l.start l.line) c.hex_digit.ensures)
    l.invariant.line
