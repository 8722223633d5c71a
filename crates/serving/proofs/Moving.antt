-- How many are left where a loop moves one of each kind, and how many fit.
use Rattle.std.proofs.Common.{◌≡◌, ℕ, suc, ◌+◌, ◌≤◌, ◌<◌, List, [], ◌∷◌, length, arith}
use Rattle.line_base.specs.Nets.{Networking}
use Rattle.serving.specs.Returning.{with_stops}

-- before the first is moved
pub none_moved : (moved left all : ℕ) → moved ≡ 0 → left ≡ all → moved + left ≡ all
none_moved moved left all none same = omega (arith, none, same)

pub as_few : (left all most : ℕ) → left ≡ all → all ≤ most → left ≤ most
as_few left all most same few = omega (arith, same, few)

pub fit_behind : (had left all room : ℕ) → left ≡ all → had + all ≤ room → had + left ≤ room
fit_behind had left all room same fit = omega (arith, same, fit)

-- one is moved
pub one_moved : (new old less left all : ℕ) → new ≡ old + 1 → left ≡ suc less → old + left ≡ all
    → new + less ≡ all
one_moved new old less left all more fewer same = omega (arith, more, fewer, same)

pub one_fits : (new old less left now room : ℕ) → new ≡ old + 1 → now ≡ room → left ≡ suc less
    → old + left ≤ room → new + less ≤ now
one_fits new old less left now room more kept fewer fit = omega (arith, more, kept, fewer, fit)

-- one of each of two kinds is moved
pub both_fewer : (new old less left given whole : ℕ) → old ≡ suc new → left ≡ suc less
    → old + given ≡ whole + left → new + given ≡ whole + less
both_fewer new old less left given whole one fewer same = omega (arith, one, fewer, same)

pub still_enough : (new old less left : ℕ) → old ≡ suc new → left ≡ suc less → left ≤ old
    → less ≤ new
still_enough new old less left one fewer enough = omega (arith, one, fewer, enough)

pub still_same : (new old less left : ℕ) → old ≡ suc new → left ≡ suc less → old ≡ left
    → new ≡ less
still_same new old less left one fewer same = omega (arith, one, fewer, same)

-- there is one to move, and room for it
pub one_there : (left less has : ℕ) → left ≡ suc less → left ≤ has → 0 < has
one_there left less has fewer enough = omega (arith, fewer, enough)

pub one_of_same : (left less has : ℕ) → left ≡ suc less → has ≡ left → 0 < has
one_of_same left less has fewer same = omega (arith, fewer, same)

pub room_there : (had left less room : ℕ) → left ≡ suc less → had + left ≤ room → had < room
room_there had left less room fewer fit = omega (arith, fewer, fit)

-- none is left
pub moved_all : (moved left all : ℕ) → left ≡ 0 → moved + left ≡ all → moved ≡ all
moved_all moved left all none same = omega (arith, none, same)

pub none_behind : (rest given left : ℕ) → left ≡ 0 → rest ≡ given + left → rest ≡ given
none_behind rest given left none same = omega (arith, none, same)

pub last_stop : {P L : Type 0} (left : List L) (now all : Networking P) → length left ≡ 0
    → with_stops (length left) now ≡ all → now ≡ all
last_stop [] now all none same = same
last_stop (l ∷ left) now all none same = absurd (omega (arith, none))

-- room for those that are left, and for more behind them
pub nothing_more : (n : ℕ) → n ≡ n + 0
nothing_more n = omega arith

pub more_by_one : (left less n : ℕ) → left ≡ suc less → left + n ≡ suc (less + n)
more_by_one left less n fewer = omega (arith, fewer)

pub more_by_none : (left n : ℕ) → left ≡ 0 → left + n ≡ n
more_by_none left n none = omega (arith, none)
