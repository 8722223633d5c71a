-- Moments as text (RFC 3339), in UTC, with milliseconds.
use Rattle.std.specs.Prelude.{ℕ, ◌+◌, ◌/◌, ◌%◌, min, List, [], ◌∷◌, ◌++◌, codes}
use Rattle.access_log.specs.declared.calendar.Date.{Date}
use Rattle.access_log.specs.Calendar.{date_of}

-- the last digits of a number
abbrev pub two_digits : ℕ → List ℕ
two_digits n = (48 + n / 10 % 10) ∷ (48 + n % 10) ∷ []

abbrev pub three_digits : ℕ → List ℕ
three_digits n = (48 + n / 100 % 10) ∷ (48 + n / 10 % 10) ∷ (48 + n % 10) ∷ []

abbrev pub four_digits : ℕ → List ℕ
four_digits n =
    (48 + n / 1000 % 10) ∷ (48 + n / 100 % 10) ∷ (48 + n / 10 % 10) ∷ (48 + n % 10) ∷ []

abbrev pub date_text : Date → List ℕ
date_text d =
    four_digits d.year ++ codes "-" ++ two_digits d.month ++ codes "-" ++ two_digits d.day

-- the hours, minutes and seconds of a day, of the milliseconds since it began
unfoldable pub clock_text : ℕ → List ℕ
clock_text ms =
    two_digits (ms / 3600000) ++ codes ":" ++ two_digits (ms / 60000 % 60) ++ codes ":"
    ++ two_digits (ms / 1000 % 60)

-- with the milliseconds, and the mark of UTC
abbrev pub time_text : ℕ → List ℕ
time_text ms = clock_text ms ++ codes "." ++ three_digits (ms % 1000) ++ codes "Z"

-- the last millisecond of the year 9999: a year has four digits
abbrev pub latest : ℕ
latest = 253402300799999

-- a moment in milliseconds since 1970; one past the year 9999 is written as the last one of that
-- year
abbrev pub moment_text : ℕ → List ℕ
moment_text moment =
    date_text (date_of (min moment latest / 86400000)) ++ codes "T"
    ++ time_text (min moment latest % 86400000)
