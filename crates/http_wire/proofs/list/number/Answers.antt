use Rattle.std.proofs.Common.{ℕ, ◌+◌, ◌≤◌, ◌<◌, ◌^◌, length, arith, sym, ◌∙◌, subst}
use Rattle.http_wire.proofs.Numbers.{digit_more, too_great, still_small, past_limit}
use Rattle.http_wire.proofs.list.number.Goals as goal

pub loop-byte-preserved : goal.loop-byte-preserved
loop-byte-preserved c =
    let within : c.loop-byte.byte-index < length c.args.digits.now = omega arith in
    let step = digit_more c.args.digits.now c.loop-byte.byte-index c.loop-byte.value
    c.from-digit.result within
    c.loop-byte.invariant.digits c.loop-byte.invariant.number
    (sym c.is_ascii_digit.ensures.value ∙ c.if-not-is_ascii_digit.false) c.from-digit.ensures in
    record {
      small = still_small _ _ step.2 c.if-value-digit.false;
      digits = step.0;
      number =
          step.1;
    }

pub returns-then-value-digit : goal.returns-then-value-digit
returns-then-value-digit c =
    let within : c.loop-byte.byte-index < length c.args.digits.now = omega arith in
    let step = digit_more c.args.digits.now c.loop-byte.byte-index c.loop-byte.value
    c.from-digit.result within
    c.loop-byte.invariant.digits c.loop-byte.invariant.number
    (sym c.is_ascii_digit.ensures.value ∙ c.if-not-is_ascii_digit.false) c.from-digit.ensures in
    let past = past_limit c.loop-byte.value c.from-digit.result step.2 c.if-value-digit.true in
    too_great c.args.digits.now (c.loop-byte.byte-index + 1) (omega arith)
    (subst (λ (n : ℕ). 2 ^ 63 ≤ n) step.1 past)
