use Rattle.std.proofs.Common.{ℕ, ◌+◌, ◌-◌, ◌<◌, ◌≤◌, sym, subst, arith}
use Rattle.access_log.proofs.Days.{InMonth, all_months, date_found, days_left, first_month}
use Rattle.access_log.proofs.Days.{later_month, month_over}
use Rattle.access_log.proofs.calendar.date_in_year.Goals as goal

pub months-init : goal.months-init
months-init c = record {
  month = omega arith;
  left =
      subst (λ (most : ℕ). c.args.days < most) (sym (all_months c.args.year)) c.requires;
  begun = first_month c.args.days c.args.year;
}

pub months-preserved : goal.months-preserved
months-preserved c =
    let days = sym c.days_in_month-rest.ensures.days in
    let over =
    subst (λ (n : ℕ). n ≤ c.months.rest) c.days_in_month.ensures.days c.months-test.true in
    let m = month_over c.args.year c.months.month c.months.rest c.months.invariant.month over
    c.months.invariant.left in
    record {
      month = omega (arith, m.0);
      left =
          subst
          (λ (n : ℕ). c.months.rest - n < days_left c.args.year (13 - (c.months.month + 1))) days
          m.1;
      begun =
          subst
          (λ (n : ℕ). InMonth c.args.days c.args.year (c.months.month + 1) (c.months.rest - n)) days
          (later_month c.args.days c.args.year c.months.month c.months.rest
          c.months.invariant.begun m.0 over);
    }

pub returns : goal.returns
returns c =
    date_found c.args.days c.args.year c.months.month c.months.rest c.months.invariant.begun
    (subst (λ (n : ℕ). c.months.rest < n) c.days_in_month.ensures.days c.months-test.false)
