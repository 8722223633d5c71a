-- What the status file of a process says of its signals (proc_pid_status(5)).
use Rattle.std.specs.Prelude.{ℕ, ◌+◌, ◌-◌, ◌*◌, ◌/◌, ◌%◌, ◌^◌, Bool, ◌||◌, ◌&&◌, ◌==◌, nat_le}
use Rattle.std.specs.Prelude.{if◌then◌else◌, List, [], ◌∷◌, codes, drop, nat_eq, Option, Some, None}
use Rattle.std.specs.List.{find, slice_split, starts_with}

-- the value of a hexadecimal digit in lower case
abbrev pub digit_of : ℕ → Option ℕ
digit_of b =
    if nat_le 48 b && nat_le b 57 then Some (b - 48)
    else (if nat_le 97 b && nat_le b 102 then Some (b - 97 + 10) else None)

-- what comes of a number behind which a digit may stand, and of the rest
abbrev pub behind_digit : ℕ → (ℕ → ℕ) → Option ℕ → ℕ
behind_digit n rest None = n
behind_digit n rest (Some digit) = rest (n % 2 ^ 60 * 16 + digit)

-- the digits that some bytes begin with, behind a number, modulo 2^64
unfoldable pub hex_number : ℕ → List ℕ → ℕ
hex_number n [] = n
hex_number n (b ∷ bs) = behind_digit n (λ more. hex_number more bs) (digit_of b)

-- the number behind the eight bytes of the line's name
abbrev pub number_in : List ℕ → ℕ
number_in line = hex_number 0 (drop 8 line)

abbrev pub number_of : Option (List ℕ) → ℕ
number_of None = 0
number_of (Some line) = number_in line

-- the signals of the line with this name, which has eight bytes
unfoldable pub signals_at : List ℕ → List ℕ → ℕ
signals_at name status =
    number_of (find (λ line. starts_with nat_eq line name) (slice_split (λ b. b == 10) status))

-- those that wait for the process as a whole
abbrev pub pending : List ℕ → ℕ
pending status = signals_at (codes "ShdPnd:\t") status

-- those that its first thread holds back, and with it all that it starts
abbrev pub blocked : List ℕ → ℕ
blocked status = signals_at (codes "SigBlk:\t") status

-- signal 1 has the lowest bit
abbrev pub is_set : ℕ → ℕ → Bool
is_set signals signal = signals / 2 ^ (signal - 1) % 2 == 1

-- SIGTERM or SIGINT is among them: these ask for an end
abbrev pub has_stop : ℕ → Bool
has_stop signals = is_set signals 15 || is_set signals 2

-- one of them waits
abbrev pub asks_to_stop : List ℕ → Bool
asks_to_stop status = has_stop (pending status)

-- one of them would wait
abbrev pub holds_stop : List ℕ → Bool
holds_stop status = has_stop (blocked status)
