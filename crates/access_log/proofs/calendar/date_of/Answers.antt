use Rattle.std.proofs.Common.{ℕ, ◌+◌, ◌-◌, ◌≤◌, arith, sym, subst, ◌∙◌, ap}
use Rattle.access_log.specs.Calendar.{date_of}
use Rattle.access_log.proofs.Days.{HasBegun, first_year, next_year}
use Rattle.access_log.proofs.calendar.date_of.Goals as goal

pub years-init : goal.years-init
years-init c = record { begun = first_year c.args.days; bound = omega arith }

pub years-preserved : goal.years-preserved
years-preserved c =
    let days = c.days_in_year-rest.ensures.days in
    let over = subst (λ (n : ℕ). n ≤ c.years.rest) c.days_in_year.ensures.days c.years-test.true in
    record {
      begun =
          subst (λ (n : ℕ). HasBegun c.args.days (c.years.year + 1) (c.years.rest - n)) (sym days)
          (next_year c.args.days c.years.year c.years.rest c.years.invariant.begun over);
      bound = omega arith;
    }

pub returns : goal.returns
returns c =
    let begun = c.years.invariant.begun in
    c.date_in_year.ensures begun.0 begun.1 ∙ ap date_of begun.2
