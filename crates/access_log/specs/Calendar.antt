-- The dates of days, from 1970-01-01 on (the Gregorian calendar).
use Rattle.std.specs.Prelude.{ℕ, zero, suc, ◌+◌, ◌%◌, ◌==◌, Bool, not, ◌&&◌, ◌||◌, nat_lt}
use Rattle.std.specs.Prelude.{if◌then◌else◌}
use Rattle.access_log.specs.declared.calendar.Date.{Date}

-- every fourth year, but of the last years of centuries only every fourth
abbrev pub is_leap_year : ℕ → Bool
is_leap_year year = (year % 4 == 0) && (not (year % 100 == 0) || (year % 400 == 0))

unfoldable pub days_in_year : ℕ → ℕ
days_in_year year = if is_leap_year year then 366 else 365

-- thirty days have September, April, June and November
unfoldable pub days_in_month : ℕ → ℕ → ℕ
days_in_month year month =
    if month == 2 then (if is_leap_year year then 29 else 28)
    else (if (month == 4) || ((month == 6) || ((month == 9) || (month == 11))) then 30 else 31)

-- the first of a month
abbrev pub first_day : ℕ → ℕ → Date
first_day year month = record { year = year; month = month; day = 1 }

-- the first of the month after this one
abbrev pub next_month : ℕ → ℕ → Date
next_month year month =
    if month == 12 then first_day (year + 1) 1 else first_day year (month + 1)

-- the date of the day after this one
abbrev pub next_date : Date → Date
next_date d =
    if nat_lt d.day (days_in_month d.year d.month)
    then record { year = d.year; month = d.month; day = d.day + 1 }
    else next_month d.year d.month

-- the date so many days after 1970-01-01
unfoldable pub date_of : ℕ → Date
date_of zero = first_day 1970 1
date_of (suc n) = next_date (date_of n)
