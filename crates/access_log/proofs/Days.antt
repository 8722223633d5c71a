-- The date of a day, by its year and its month.
use Rattle.std.proofs.Common.{◌≡◌, ℕ, zero, suc, ◌+◌, ◌-◌, ◌<◌, ◌≤◌, ◌⊎◌, inl, inr, Bool, true}
use Rattle.std.proofs.Common.{false, if◌then◌else◌, refl, sym, ap, subst, ◌∙◌, arith, add-zero}
use Rattle.std.proofs.Common.{add-one, lit<}
use Rattle.std.proofs.lemmas.Bool.{cases_lt, cond_both, le-ltb, lt-ltb, ne_eqb}
use Rattle.access_log.specs.declared.calendar.Date.{Date}
use Rattle.access_log.specs.Calendar.{date_of, days_in_month, days_in_year, first_day, is_leap_year}
use Rattle.access_log.specs.Calendar.{next_date, next_month}

abbrev on : ℕ → ℕ → ℕ → Date
on y m d = record { year = y; month = m; day = d }

-- ---- a month

within : (y m d : ℕ) → d < days_in_month y m → next_date (on y m d) ≡ on y m (d + 1)
within y m d h = rw (lt-ltb d (days_in_month y m) h)

at_end : (y m d : ℕ) → days_in_month y m ≤ d → next_date (on y m d) ≡ next_month y m
at_end y m d h = rw (le-ltb d (days_in_month y m) h)

-- the days of a month, one after another
pub days_on : (n y m : ℕ) → date_of n ≡ first_day y m → (k : ℕ) → k < days_in_month y m
    → date_of (n + k) ≡ on y m (k + 1)
unfolding date_of
days_on n y m is zero h = ap date_of (add-zero n) ∙ is
days_on n y m is (suc k) h =
    let before = days_on n y m is k (omega (arith, h)) in
    let more : n + suc k ≡ suc (n + k) = omega arith in
    ap date_of more
    ∙ (ap next_date before
    ∙ (within y m (k + 1) (omega (arith, h)) ∙ ap (λ (d : ℕ). on y m (d + 1)) (add-one k)))

pub some_days : (y m : ℕ) → 28 ≤ days_in_month y m
unfolding days_in_month
some_days y m = grind arith

-- the first of the next month
month_on : (n y m : ℕ) → date_of n ≡ first_day y m
    → date_of (n + days_in_month y m) ≡ next_month y m
unfolding date_of
month_on n y m is =
    let some = some_days y m in
    let last = days_on n y m is (days_in_month y m - 1) (omega (arith, some)) in
    let more : n + days_in_month y m ≡ suc (n + (days_in_month y m - 1)) = omega (arith, some) in
    ap date_of more
    ∙ (ap next_date last ∙ at_end y m (days_in_month y m - 1 + 1) (omega (arith, some)))

-- ---- a year

-- the days of the last so many months of a year
abbrev pub days_left : ℕ → ℕ → ℕ
days_left y zero = 0
days_left y (suc k) = days_in_month y (12 - k) + days_left y k

by_leap : Bool → ℕ
by_leap leap =
    31 + ((if leap then 29 else 28) + (31 + (30 + (31 + (30 + (31 + (31 + (30
    + (31 + (30 + (31 + 0)))))))))))

pub all_months : (y : ℕ) → days_left y 12 ≡ days_in_year y
unfolding days_in_month days_in_year by_leap
all_months y = sum (is_leap_year y)
  where
    sum : (leap : Bool) → by_leap leap ≡ (if leap then 366 else 365)
    sum true = refl
    sum false = refl

next_is : (y m : ℕ) → m < 12 → next_month y m ≡ first_day y (m + 1)
next_is y m h = rw (ne_eqb m 12 (λ e. omega (arith, h, e)))

-- the first of the next year, from the first of a month on
months_on : (y k n : ℕ) → k < 12 → date_of n ≡ first_day y (12 - k)
    → date_of (n + days_left y (suc k)) ≡ first_day (y + 1) 1
months_on y zero n h is =
    let whole : n + (days_in_month y 12 + 0) ≡ n + days_in_month y 12 = omega arith in
    ap date_of whole ∙ month_on n y 12 is
months_on y (suc k) n h is =
    let m : ℕ = 12 - suc k in
    let later : m + 1 ≡ 12 - k = omega (arith, h) in
    let next : date_of (n + days_in_month y m) ≡ first_day y (12 - k) =
    month_on n y m is ∙ (next_is y m (omega (arith, h)) ∙ ap (first_day y) later) in
    let whole : n + (days_in_month y m + days_left y (suc k))
    ≡ (n + days_in_month y m) + days_left y (suc k) = omega arith in
    ap date_of whole ∙ months_on y k (n + days_in_month y m) (omega (arith, h)) next

pub year_on : (n y : ℕ) → date_of n ≡ first_day y 1
    → date_of (n + days_in_year y) ≡ first_day (y + 1) 1
year_on n y is =
    ap (λ (d : ℕ). date_of (n + d)) (sym (all_months y)) ∙ months_on y 11 n (lit< tt) is

-- ---- the loops

-- the years that have begun: this day was the first of one, so many days before
abbrev pub HasBegun : ℕ → ℕ → ℕ → Type 0
HasBegun days year rest = (n : ℕ) × (date_of n ≡ first_day year 1) × (n + rest ≡ days)

pub first_year : (days : ℕ) → HasBegun days 1970 days
unfolding date_of
first_year days = (0, refl, omega arith)

pub next_year : (days year rest : ℕ) → HasBegun days year rest → days_in_year year ≤ rest
    → HasBegun days (year + 1) (rest - days_in_year year)
next_year days year rest begun h =
    (begun.0 + days_in_year year, year_on begun.0 year begun.1, omega (arith, begun.2, h))

-- a month of a year: so many days before, it was the first of it
abbrev pub InMonth : ℕ → ℕ → ℕ → ℕ → Type 0
InMonth days year month rest =
    (n : ℕ) → date_of n ≡ first_day year 1
    → (k : ℕ) × (date_of (n + k) ≡ first_day year month) × (k + rest ≡ days)

pub first_month : (days year : ℕ) → InMonth days year 1 days
first_month days year n is = (0, ap date_of (add-zero n) ∙ is, omega arith)

pub later_month : (days year month rest : ℕ) → InMonth days year month rest → month < 12
    → days_in_month year month ≤ rest
    → InMonth days year (month + 1) (rest - days_in_month year month)
later_month days year month rest begun h some n is =
    let b = begun n is in
    let whole : n + (b.0 + days_in_month year month) ≡ (n + b.0) + days_in_month year month =
    omega arith in (
      b.0 + days_in_month year month,
      ap date_of whole ∙ (month_on (n + b.0) year month b.1 ∙ next_is year month h),
      omega (arith, b.2, some),
    )

left_is : (y m : ℕ) → m ≤ 12
    → days_left y (13 - m) ≡ days_in_month y m + days_left y (12 - m)
left_is y m h =
    let months : 13 - m ≡ suc (12 - m) = omega (arith, h) in
    let this : 12 - (12 - m) ≡ m = omega (arith, h) in
    ap (days_left y) months ∙ ap (λ (k : ℕ). days_in_month y k + days_left y (12 - m)) this

-- a month that is over is not the last one, and what is left is left of the later ones
pub month_over : (y m rest : ℕ) → m ≤ 12 → days_in_month y m ≤ rest → rest < days_left y (13 - m)
    → (m < 12) × (rest - days_in_month y m < days_left y (13 - (m + 1)))
month_over y m rest h over left = elim (cases_lt m 12) [
  | inl earlier ↦
      let is = left_is y m h in
      let months : 13 - (m + 1) ≡ 12 - m = omega arith in
      (earlier, rw months (omega (arith, is, left, over)))
  | inr later ↦
      let is = left_is y m h in
      let none : 12 - m ≡ 0 = omega (arith, later) in
      let no_days : days_left y (12 - m) ≡ 0 = ap (days_left y) none in
      absurd (omega (arith, is, left, over, no_days))
]

-- the date in the month
pub date_found : (days year month rest : ℕ) → InMonth days year month rest
    → rest < days_in_month year month
    → (n : ℕ) → date_of n ≡ first_day year 1 → on year month (rest + 1) ≡ date_of (n + days)
date_found days year month rest begun h n is =
    let b = begun n is in
    let whole : n + days ≡ (n + b.0) + rest = omega (arith, b.2) in
    sym (ap date_of whole ∙ days_on (n + b.0) year month b.1 rest h)
